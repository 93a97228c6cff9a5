use Rattle.std.proofs.Common.{◌≡◌, ◌<◌, List, Vec, Global, ℕ, None, Ok, true, length, map, ap, sym, subst, ◌∙◌, arith, rules}
use Rattle.std.proofs.lemmas.List.{map-set}
use Rattle.std.specs.Str.{bytes_eq}
use Rattle.bsi_logical.specs.Logical.{column_called, name_of, title_of, IsLogical, Logical}
use Rattle.bsi_logical.specs.Records.{with_title}
use Rattle.bsi_logical.proofs.Building.{title_done, title_logical, uncalled}
use Rattle.bsi_logical.proofs.logical.LogicalSchema.set_title.Goals as goal

-- no column is called so
pub invariant_of-self : goal.invariant_of-self
invariant_of-self c =
    let l : Logical = record {
      schema = c.self.inside.schema;
      limit = c.self.inside.limit;
      titles = map (λ (t : Vec ℕ Global). t.items) c.self.inside.titles.items;
      kinds = c.self.inside.kinds.items;
      dialect = c.self.inside.dialect;
      nulls = map (λ (w : Vec ℕ Global). w.items) c.self.inside.nulls.items;
    } in
    let title = c.in_ok-title.title.items in
    let text : title ≡ c.args.title.now = search rules in
    let none : column_called c.args.self.now c.args.title.now ≡ None = search (rules, c.find.ensures, c.is_some.ensures, c.if-is_some.false) in
    let free : column_called l title ≡ None = ap (column_called l) text ∙ ap (λ (s : Logical). column_called s c.args.title.now) c.self.view_is ∙ none in
    let within : c.args.c < length l.titles = omega (arith, c.requires, ap (λ (s : Logical). length s.schema.columns) c.self.view_is, c.self.invariant.titled) in
    subst (λ (ts : List (List ℕ)). IsLogical (record l { titles = ts })) (sym (map-set (λ (t : Vec ℕ Global). t.items) c.self.inside.titles.items c.args.c c.in_ok-title.title))
    (title_logical l c.args.c title c.self.invariant within (uncalled l title free))

pub returns : goal.returns
returns c =
    let l : Logical = record {
      schema = c.self.inside.schema;
      limit = c.self.inside.limit;
      titles = map (λ (t : Vec ℕ Global). t.items) c.self.inside.titles.items;
      kinds = c.self.inside.kinds.items;
      dialect = c.self.inside.dialect;
      nulls = map (λ (w : Vec ℕ Global). w.items) c.self.inside.nulls.items;
    } in
    let title = c.in_ok-title.title.items in
    let text : title ≡ c.args.title.now = search rules in
    let none : column_called c.args.self.now c.args.title.now ≡ None = search (rules, c.find.ensures, c.is_some.ensures, c.if-is_some.false) in
    let plain : bytes_eq (title_of c.args.self.now c.args.c) (name_of c.args.self.now c.args.c) ≡ true =
    search (rules, c.title.ensures, c.name.ensures, c.as_bytes.ensures.value, c.ne.ensures, c.if-ne.false) in
    title_done c.args.self.now c.args.c c.args.title.now plain none
    ∙ ap (λ (s : Logical). Ok (with_title s c.args.c c.args.title.now)) (sym c.self.view_is)
    ∙ ap (λ t. Ok (with_title l c.args.c t)) (sym text)
    ∙ ap (λ (ts : List (List ℕ)). Ok (record l { titles = ts })) (sym (map-set (λ (t : Vec ℕ Global). t.items) c.self.inside.titles.items c.args.c c.in_ok-title.title))
