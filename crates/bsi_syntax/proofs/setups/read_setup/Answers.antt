use Rattle.std.proofs.Common.{◌≡◌, Some, None, true, false, codes, drop, subst, sym, ◌∙◌, ap, rules}
use Rattle.std.specs.Str.{bytes_eq}
use Rattle.std.proofs.lemmas.Result.{IfOk-weaker}
use Rattle.csv.specs.Records.{field_at, fields_of}
use Rattle.bsi_syntax.specs.declared.setups.DeclaredTable.{DeclaredTable}
use Rattle.bsi_syntax.specs.Setups.{column_after, declared_table, limit_of, table_after, IsChange}
use Rattle.bsi_syntax.proofs.Adding.{not_done}
use Rattle.bsi_syntax.proofs.Tables.{changed_by, table_column, table_empty, table_limit, table_other}
use Rattle.bsi_syntax.proofs.setups.read_setup.Goals as goal

-- the record has no field
pub returns-in_default-clause-done : goal.returns-in_default-clause-done
returns-in_default-clause-done c =
    let fields = fields_of c.args.fields.now in
    let none : field_at fields 0 ≡ None = search (rules, c.get.ensures.value, c.in_default.is) in
    let table = declared_table c.args.schema.now c.args.limit.now in
    not_done (table_after table fields) table (table_empty table fields none)

-- a column
pub returns-then-eq-clause-done : goal.returns-then-eq-clause-done
returns-then-eq-clause-done c =
    let table = declared_table c.args.schema.now c.args.limit.now in
    let after : DeclaredTable = record table { schema = c.declare_column.new.schema } in
    let fields = fields_of c.args.fields.now in
    let word = c.in-Some.word.now in
    let first : field_at fields 0 ≡ Some word = search (rules, c.get.ensures.value, c.in-Some.is) in
    let is : bytes_eq word (codes "column") ≡ true = ap (bytes_eq word) (sym c.as_slice.ensures) ∙ sym c.eq.ensures ∙ c.if-eq.true in
    IfOk-weaker c.declare_column.result _ _ (λ done change.
    subst (λ next. IsChange next table after done) (sym (table_column table fields word first is))
    (changed_by {B = DeclaredTable} (λ schema. record table { schema = schema }) (column_after table.schema (drop 1 fields)) table.schema after.schema done change)) c.declare_column.ensures.done

-- the limit
pub returns-then-eq-2-clause-done : goal.returns-then-eq-2-clause-done
returns-then-eq-2-clause-done c =
    let table = declared_table c.args.schema.now c.args.limit.now in
    let after : DeclaredTable = record table { limit = c.declare_limit.new.limit } in
    let fields = fields_of c.args.fields.now in
    let word = c.in-Some.word.now in
    let first : field_at fields 0 ≡ Some word = search (rules, c.get.ensures.value, c.in-Some.is) in
    let other : bytes_eq word (codes "column") ≡ false = ap (bytes_eq word) (sym c.as_slice.ensures) ∙ sym c.eq.ensures ∙ c.if-eq.false in
    let is : bytes_eq word (codes "limit") ≡ true = ap (bytes_eq word) (sym c.as_slice-2.ensures) ∙ sym c.eq-2.ensures ∙ c.if-eq-2.true in
    subst (λ next. IsChange next table after c.declare_limit.result) (sym (table_limit table fields word first other is))
    (changed_by {B = DeclaredTable} (λ limit. record table { limit = limit }) (limit_of (drop 1 fields)) table.limit after.limit c.declare_limit.result c.declare_limit.ensures)

-- another word
pub returns-clause-done : goal.returns-clause-done
returns-clause-done c =
    let table = declared_table c.args.schema.now c.args.limit.now in
    let fields = fields_of c.args.fields.now in
    let word = c.in-Some.word.now in
    let first : field_at fields 0 ≡ Some word = search (rules, c.get.ensures.value, c.in-Some.is) in
    let other : bytes_eq word (codes "column") ≡ false = ap (bytes_eq word) (sym c.as_slice.ensures) ∙ sym c.eq.ensures ∙ c.if-eq.false in
    let another : bytes_eq word (codes "limit") ≡ false = ap (bytes_eq word) (sym c.as_slice-2.ensures) ∙ sym c.eq-2.ensures ∙ c.if-eq-2.false in
    not_done (table_after table fields) table (table_other table fields word first other another)
