use Rattle.std.proofs.Common.{◌≡◌, ◌<◌, ◌++◌, ◌∷◌, [], ℕ, List, Vec, Global, get_or, length, map, ap, ap₂, sym, ◌∙◌, arith, rules}
use Rattle.std.proofs.Math.ListN.{get_or-map}
use Rattle.std.proofs.lemmas.List.{length-map, map-append, take_more}
use Rattle.bsi_schema.specs.Columns.{no_column, NamedColumn}
use Rattle.bsi_logical.specs.Logical.{names_of}
use Rattle.bsi_logical.proofs.logical.making.list_names.Goals as goal

-- one name more
pub columns-preserved : goal.columns-preserved
columns-preserved c =
    let seen : Vec ℕ Global → List ℕ = λ name. name.items in
    let columns = c.args.schema.now.columns in
    let within : c.columns.c < length (names_of c.args.schema.now) =
    omega (arith, c.columns-test.true, c.columns-c-end.ensures.columns, length-map columns (λ (column : NamedColumn). column.name)) in
    let bytes : c.in_ok-name.name.items ≡ (get_or columns c.columns.c no_column).name = search (rules, c.name.ensures, c.as_bytes.ensures.value, c.in_ok-name.ensures.items) in
    let name : c.in_ok-name.name.items ≡ get_or (names_of c.args.schema.now) c.columns.c [] =
    bytes ∙ sym (get_or-map (λ (column : NamedColumn). column.name) columns c.columns.c no_column) in
    let is : c.push.new.self.items ≡ c.columns.names.items ++ c.in_ok-name.name ∷ [] = search rules in
    ap (map seen) is ∙ map-append seen c.columns.names.items (c.in_ok-name.name ∷ [])
    ∙ ap₂ (λ (names : List (List ℕ)) (text : List ℕ). names ++ text ∷ []) c.columns.invariant name
    ∙ sym (take_more (names_of c.args.schema.now) c.columns.c [] within)
