use Rattle.std.proofs.Common.{◌≡◌, ◌++◌, ◌∷◌, [], ℕ, List, Vec, Global, None, Some, get_or, map, ap, sym, ◌∙◌, rules}
use Rattle.std.proofs.lemmas.List.{map-append}
use Rattle.csv.specs.Records.{fields_of}
use Rattle.bsi_kinds.specs.declared.kind.Kind.{Kind}
use Rattle.bsi_kinds.specs.declared.kind.Kind.TheVariants.{Decimal}
use Rattle.bsi_syntax.specs.Setups.{declared_table, table_after, IsChange}
use Rattle.bsi_logical.specs.Logical.{column_called, Logical}
use Rattle.bsi_logical.specs.Records.{column_said, logical_table, word_of}
use Rattle.bsi_logical.specs.declared.logical.declaring.Word.TheVariants.{Column}
use Rattle.bsi_logical.proofs.Building.{column_done, not_column, one_column}
use Rattle.bsi_logical.proofs.logical.LogicalSchema.declare_column.Goals as goal

-- no column was added
pub invariant_of-self-then-not-branch : goal.invariant_of-self-then-not-branch
invariant_of-self-then-not-branch c =
    let l : Logical = record {
      schema = c.self.inside.schema;
      limit = c.self.inside.limit;
      titles = map (λ (t : Vec ℕ Global). t.items) c.self.inside.titles.items;
      kinds = c.self.inside.kinds.items;
      dialect = c.self.inside.dialect;
      nulls = map (λ (w : Vec ℕ Global). w.items) c.self.inside.nulls.items;
    } in
    let fields = fields_of c.args.fields.now in
    let table = declared_table c.read_setup.new.schema c.read_setup.new.limit in
    let change : IsChange (table_after (logical_table l) fields) (logical_table l) table c.in_ok-read_setup.field-0 = c.in_ok-read_setup.ensures.done in
    not_column l (map (λ (t : Vec ℕ Global). t.items) c.reserve.new.self.items) c.reserve-2.new.self.items table fields c.in_ok-read_setup.field-0 c.self.invariant
    (ap (map (λ (t : Vec ℕ Global). t.items)) c.in_ok-reserve.ensures.items) c.in_ok-reserve-2.ensures.items change c.if-not-branch.true

-- one column more
pub invariant_of-self-2 : goal.invariant_of-self-2
invariant_of-self-2 c =
    let l : Logical = record {
      schema = c.self.inside.schema;
      limit = c.self.inside.limit;
      titles = map (λ (t : Vec ℕ Global). t.items) c.self.inside.titles.items;
      kinds = c.self.inside.kinds.items;
      dialect = c.self.inside.dialect;
      nulls = map (λ (w : Vec ℕ Global). w.items) c.self.inside.nulls.items;
    } in
    let fields = fields_of c.args.fields.now in
    let table = declared_table c.read_setup.new.schema c.read_setup.new.limit in
    let change : IsChange (table_after (logical_table l) fields) (logical_table l) table c.in_ok-read_setup.field-0 = c.in_ok-read_setup.ensures.done in
    let name = c.in_ok-title.title.items in
    let named : name ≡ get_or fields 1 [] = search (rules, c.field-name.ensures.value, c.in_ok-title.ensures.items) in
    let titles : map (λ (t : Vec ℕ Global). t.items) c.push_reserved.new.self.items ≡ l.titles ++ get_or fields 1 [] ∷ [] =
    ap (map (λ (t : Vec ℕ Global). t.items)) (c.push_reserved.ensures.items ∙ ap (λ (ts : List (Vec ℕ Global)). ts ++ c.in_ok-title.title ∷ []) c.in_ok-reserve.ensures.items)
    ∙ map-append (λ (t : Vec ℕ Global). t.items) c.self.inside.titles.items (c.in_ok-title.title ∷ []) ∙ ap (λ t. l.titles ++ t ∷ []) named in
    let kinds : c.push_reserved-2.new.self.items ≡ l.kinds ++ Decimal 0 ∷ [] =
    c.push_reserved-2.ensures.items ∙ ap (λ (ks : List Kind). ks ++ Decimal 0 ∷ []) c.in_ok-reserve-2.ensures.items in
    let word : word_of (get_or fields 0 []) ≡ Some Column = c.requires in
    let none : column_called c.args.self.now (get_or fields 1 []) ≡ None = search (rules, c.field-name.ensures.value, c.find.ensures, c.is_some.ensures, c.if-is_some.false) in
    let free : column_called l (get_or fields 1 []) ≡ None = ap (λ (s : Logical). column_called s (get_or fields 1 [])) c.self.view_is ∙ none in
    one_column l (map (λ (t : Vec ℕ Global). t.items) c.push_reserved.new.self.items) c.push_reserved-2.new.self.items table fields c.in_ok-read_setup.field-0
    c.self.invariant word free change c.if-not-branch.false titles kinds

pub returns : goal.returns
returns c =
    let l : Logical = record {
      schema = c.self.inside.schema;
      limit = c.self.inside.limit;
      titles = map (λ (t : Vec ℕ Global). t.items) c.self.inside.titles.items;
      kinds = c.self.inside.kinds.items;
      dialect = c.self.inside.dialect;
      nulls = map (λ (w : Vec ℕ Global). w.items) c.self.inside.nulls.items;
    } in
    let fields = fields_of c.args.fields.now in
    let table = declared_table c.read_setup.new.schema c.read_setup.new.limit in
    let change : IsChange (table_after (logical_table l) fields) (logical_table l) table c.in_ok-read_setup.field-0 = c.in_ok-read_setup.ensures.done in
    let name = c.in_ok-title.title.items in
    let named : name ≡ get_or fields 1 [] = search (rules, c.field-name.ensures.value, c.in_ok-title.ensures.items) in
    let titles : map (λ (t : Vec ℕ Global). t.items) c.push_reserved.new.self.items ≡ l.titles ++ get_or fields 1 [] ∷ [] =
    ap (map (λ (t : Vec ℕ Global). t.items)) (c.push_reserved.ensures.items ∙ ap (λ (ts : List (Vec ℕ Global)). ts ++ c.in_ok-title.title ∷ []) c.in_ok-reserve.ensures.items)
    ∙ map-append (λ (t : Vec ℕ Global). t.items) c.self.inside.titles.items (c.in_ok-title.title ∷ []) ∙ ap (λ t. l.titles ++ t ∷ []) named in
    let kinds : c.push_reserved-2.new.self.items ≡ l.kinds ++ Decimal 0 ∷ [] =
    c.push_reserved-2.ensures.items ∙ ap (λ (ks : List Kind). ks ++ Decimal 0 ∷ []) c.in_ok-reserve-2.ensures.items in
    let word : word_of (get_or fields 0 []) ≡ Some Column = c.requires in
    let none : column_called c.args.self.now (get_or fields 1 []) ≡ None = search (rules, c.field-name.ensures.value, c.find.ensures, c.is_some.ensures, c.if-is_some.false) in
    let free : column_called l (get_or fields 1 []) ≡ None = ap (λ (s : Logical). column_called s (get_or fields 1 [])) c.self.view_is ∙ none in
    ap (λ (s : Logical). column_said s fields) (sym c.self.view_is)
    ∙ column_done l (map (λ (t : Vec ℕ Global). t.items) c.push_reserved.new.self.items) c.push_reserved-2.new.self.items table fields c.in_ok-read_setup.field-0
    c.self.invariant word free change c.if-not-branch.false titles kinds
