use Rattle.std.proofs.Common.{◌≡◌, length, map, ap, sym, subst, arith, ◌∙◌}
use Rattle.std.proofs.lemmas.List.{length-map}
use Rattle.bsi_rows.specs.Table.{encoded_as}
use Rattle.bsi_table.specs.Encoded.{AreAlikeColumns}
use Rattle.bsi_table.proofs.Joining.{alike_columns, alike_schemas}
use Rattle.bsi_table.proofs.index.Index.is_encoded_like.Goals as goal

pub returns-then-feeders-clause-alike : goal.returns-then-feeders-clause-alike
returns-then-feeders-clause-alike c = λ same.
    let i = c.self.inside in
    let o = c.other.inside in
    let own = c.deref.ensures.value in
    let others = c.deref-then-feeders.ensures.value in
    let alike : AreAlikeColumns i.columns.items o.columns.items =
    subst (λ xs. AreAlikeColumns i.columns.items xs) others (subst (λ xs. AreAlikeColumns xs c.deref-then-feeders.result.now) own (c.are_encoded_alike.ensures.alike same)) in
    let long = sym (ap length others) ∙ c.are_encoded_alike.ensures.long same ∙ ap length own in
    sym (ap (λ t. map encoded_as t.schema.columns) c.self.view_is)
    ∙ alike_schemas i.schema.value.columns o.schema.value.columns i.columns.items o.columns.items (length i.origins.rows) (length o.origins.rows)
    c.self.invariant.0.columns_are c.other.invariant.0.columns_are long alike
    ∙ ap (λ t. map encoded_as t.schema.columns) c.other.view_is

-- and where they are kept alike, each column is found to be
pub returns-then-feeders-clause-all : goal.returns-then-feeders-clause-all
returns-then-feeders-clause-all c = λ few encoded.
    let i = c.self.inside in
    let o = c.other.inside in
    let own = c.deref.ensures.value in
    let others = c.deref-then-feeders.ensures.value in
    let mine = i.schema.value.columns in
    let theirs = o.schema.value.columns in
    let same : map encoded_as mine ≡ map encoded_as theirs =
    ap (λ t. map encoded_as t.schema.columns) c.self.view_is ∙ encoded ∙ sym (ap (λ t. map encoded_as t.schema.columns) c.other.view_is) in
    let alike = alike_columns mine theirs i.columns.items o.columns.items (length i.origins.rows) (length o.origins.rows) c.self.invariant.0.columns_are c.other.invariant.0.columns_are same in
    let long : length o.columns.items ≡ length i.columns.items =
    omega (arith, c.self.invariant.0.columns_are.long, c.other.invariant.0.columns_are.long, ap length same, length-map mine encoded_as, length-map theirs encoded_as) in
    c.are_encoded_alike.ensures.all (ap length others ∙ long ∙ sym (ap length own))
    (subst (λ xs. AreAlikeColumns xs c.deref-then-feeders.result.now) (sym own) (subst (λ xs. AreAlikeColumns i.columns.items xs) (sym others) alike))
