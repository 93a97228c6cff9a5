use Rattle.std.proofs.Common.{◌≡◌, ◌||◌, ◌++◌, ◌∷◌, [], length, map, IsTrue, subst, sym, ap, arith, ◌∙◌}
use Rattle.std.proofs.lemmas.Int.{ints}
use Rattle.std.proofs.lemmas.List.Elements.{All-push}
use Rattle.std.proofs.lemmas.List.{length-append, map-append}
use Rattle.bsi_schema.specs.Columns.{named, position_of, with_column, IsColumn, IsDeclared, IsSchema, MayFollow, NamedColumn}
use Rattle.bsi_schema.specs.Limits.{limits_of}
use Rattle.bsi_schema.specs.Names.{is_name}
use Rattle.bsi_schema.proofs.Declaring.{declared_more}
use Rattle.bsi_schema.proofs.Naming.{named-insert}
use Rattle.bsi_schema.proofs.schema.Schema.push.Goals as goal

-- the name is no column's, so the columns are those of before and this one
pub invariant_of-self-2 : goal.invariant_of-self-2
invariant_of-self-2 c =
    let before = c.self.inside.columns in
    let fresh = ap (λ s. position_of s.columns c.args.name.now) c.self.view_is ∙ c.requires.fresh in
    let columns = ap (λ es. map named es) c.in_ok-insert.ensures.entries ∙ named-insert before c.in_ok-key.key c.args.layout c.args.name.now c.in_ok-key.ensures.ok fresh in
    let column : NamedColumn = record { name = c.args.name.now; form = c.args.layout.form; offset = c.args.layout.offset } in
    let valid : IsColumn column = record { form = c.requires.form; low = omega (arith, ints, ap (λ l. l.least) c.of-limits.ensures, c.of-limits.type_inv.1.1.0.1); below = c.requires.below } in
    let listed : IsSchema (map named before.entries ++ column ∷ []) = record {
      few = omega (arith, length-append {A = NamedColumn}, c.requires.few, ap (λ s. length s.columns) c.self.view_is);
      named = All-push (λ c. IsTrue (is_name c.name)) (map named before.entries) column c.self.invariant.0.named c.requires.name;
      each = All-push IsColumn (map named before.entries) column c.self.invariant.0.each valid;
    } in
    let limits : c.push_reserved.new.self.items ≡ map limits_of (map named before.entries ++ column ∷ []) =
    c.push_reserved.ensures.items ∙ ap (λ ls. ls ++ c.of-limits.result ∷ []) (c.in_ok-reserve.ensures.items ∙ c.self.invariant.1)
    ∙ ap (λ l. map limits_of (map named before.entries) ++ l ∷ []) c.of-limits.ensures
    ∙ sym (map-append limits_of (map named before.entries) (column ∷ [])) in
    let may : MayFollow (map named before.entries) c.args.signed column = record {
      few = omega (arith, c.requires.few, ap (λ s. length s.columns) c.self.view_is);
      name = c.requires.name;
      fresh = fresh;
      valid = valid;
      from_zero = c.requires.from_zero;
    } in
    let declared = declared_more (record { columns = map named before.entries; signed = c.self.inside.signed }) column c.args.signed c.self.invariant.2 may in (
      subst IsSchema (sym columns) listed,
      limits ∙ ap (map limits_of) (sym columns),
      subst (λ cs. IsDeclared (record { columns = cs; signed = c.self.inside.signed || c.args.signed })) (sym columns) declared,
    )

pub returns-clause-ok : goal.returns-clause-ok
returns-clause-ok c =
    let before = c.self.inside.columns in
    let fresh = ap (λ s. position_of s.columns c.args.name.now) c.self.view_is ∙ c.requires.fresh in
    let columns = ap (λ es. map named es) c.in_ok-insert.ensures.entries ∙ named-insert before c.in_ok-key.key c.args.layout c.args.name.now c.in_ok-key.ensures.ok fresh in
    ap (λ cs. record { columns = cs; signed = c.self.inside.signed || c.args.signed }) columns
    ∙ ap (λ s. with_column s (record { name = c.args.name.now; form = c.args.layout.form; offset = c.args.layout.offset }) c.args.signed) c.self.view_is
