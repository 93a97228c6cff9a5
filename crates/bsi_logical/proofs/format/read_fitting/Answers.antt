use Rattle.std.proofs.Common.{◌≡◌, ◌<◌, ◌+◌, [], length, get_or, ap, sym, subst, arith, ◌∙◌}
use Rattle.std.proofs.lemmas.List.{length-map}
use Rattle.csv.specs.Records.{fields_of}
use Rattle.bsi_schema.specs.Columns.{column_at, Declared}
use Rattle.bsi_input.specs.Formats.{fields_at}
use Rattle.bsi_input.proofs.Layouts.{ordered_field}
use Rattle.bsi_logical.specs.LogicalRows.{accepted_entry, entry_of}
use Rattle.bsi_logical.proofs.Fields.{IsRead, entries_done, entries_fit, entry_read, entry_stop}
use Rattle.bsi_logical.proofs.format.read_fitting.Goals.{After-field-text}
use Rattle.bsi_logical.proofs.format.read_fitting.Goals as goal

-- the next column has a field, which was read
next : (c : goal.After-field-text) → let l = c.args.logical.now in let k = c.columns.c in
    (k < length l.schema.columns) × (length (fields_at c.args.indexes.now (fields_of c.args.fields.now)) ≡ length l.schema.columns)
    × (accepted_entry (column_at l.schema.columns k) (entry_of l k c.field-text.result.now)
    ≡ accepted_entry (column_at l.schema.columns k) (entry_of l k (get_or (fields_at c.args.indexes.now (fields_of c.args.fields.now)) k [])))
next c =
    let l = c.args.logical.now in
    let indexes = c.args.indexes.now in
    let fields = fields_of c.args.fields.now in
    let k = c.columns.c in
    let many = length-map indexes (λ index. get_or fields index []) ∙ c.requires.many in
    let there : k < length l.schema.columns =
    omega (arith, c.columns-test.true, c.columns-c-end.ensures.columns, ap (λ (d : Declared). length d.columns) c.schema.ensures.schema) in
    let text_is = c.field-text.ensures.value ∙ ordered_field indexes fields k (omega (arith, there, c.requires.many)) in
    (there, many, ap (λ text. accepted_entry (column_at l.schema.columns k) (entry_of l k text)) text_is)

pub returns-in_default-clause-row : goal.returns-in_default-clause-row
returns-in_default-clause-row c =
    let at = next (goal.at.returns-in_default-clause-row c).After-field-text in
    entry_stop c.args.logical.now (fields_at c.args.indexes.now (fields_of c.args.fields.now)) c.columns.c c.columns.entries.items at.1 c.columns.invariant.read at.0
    (sym at.2 ∙ sym c.read_accepted.ensures ∙ c.in_default.is)

pub columns-preserved : goal.columns-preserved
columns-preserved c =
    let l = c.args.logical.now in
    let in_row = fields_at c.args.indexes.now (fields_of c.args.fields.now) in
    let k = c.columns.c in
    let at = next (goal.at.columns-preserved c).After-field-text in
    let more = entry_read l in_row k c.columns.entries.items at.1 c.columns.invariant.read c.in-Some.entry at.0
    (sym at.2 ∙ sym c.read_accepted.ensures ∙ c.in-Some.is) in
    record {
      read = subst (IsRead l in_row (k + 1)) (sym c.push_reserved.ensures.items) more;
      few = omega (arith, at.0);
      room = omega (arith, c.columns.invariant.room, c.push_reserved.ensures.capacity);
    }

pub returns-clause-row : goal.returns-clause-row
returns-clause-row c =
    let l = c.args.logical.now in
    let many = length-map c.args.indexes.now (λ index. get_or (fields_of c.args.fields.now) index []) ∙ c.requires.many in
    let all : c.columns.c ≡ length l.schema.columns =
    omega (arith, c.columns-test.false, c.columns.invariant.few, c.columns-c-end.ensures.columns, ap (λ (d : Declared). length d.columns) c.schema.ensures.schema) in
    entries_done l (fields_at c.args.indexes.now (fields_of c.args.fields.now)) c.columns.c c.columns.entries.items many c.columns.invariant.read all

pub returns-clause-fits : goal.returns-clause-fits
returns-clause-fits c = λ yes.
    let l = c.args.logical.now in
    let many = length-map c.args.indexes.now (λ index. get_or (fields_of c.args.fields.now) index []) ∙ c.requires.many in
    let all : c.columns.c ≡ length l.schema.columns =
    omega (arith, c.columns-test.false, c.columns.invariant.few, c.columns-c-end.ensures.columns, ap (λ (d : Declared). length d.columns) c.schema.ensures.schema) in
    entries_fit l (fields_at c.args.indexes.now (fields_of c.args.fields.now)) c.columns.c c.columns.entries.items many c.columns.invariant.read all
