use Rattle.std.proofs.Common.{◌≡◌, ◌<◌, ◌≤◌, ◌+◌, [], ◌^◌, ◌+ℤ◌, ◌≤ℤ◌, pos, length, map, get_or, ap, sym, subst, arith, rules, ◌∙◌}
use Rattle.std.proofs.Math.Nat.{min-eq_right}
use Rattle.std.proofs.lemmas.List.{get_or-map, length-map, length_push}
use Rattle.std.proofs.lemmas.List.Elements.{All-get_or}
use Rattle.std.proofs.lemmas.Slice.Zip.{zip_end, zip_turn}
use Rattle.csv.specs.Records.{fields_of}
use Rattle.bsi_schema.specs.declared.limits.Limits.{Limits}
use Rattle.bsi_schema.specs.Columns.{column_at, no_column, IsColumn}
use Rattle.bsi_schema.specs.Limits.{limits_of}
use Rattle.bsi_schema.proofs.Fitting.{limits_long}
use Rattle.bsi_syntax.specs.Numbers.{entry_in}
use Rattle.bsi_input.specs.Formats.{fields_at}
use Rattle.bsi_input.proofs.Layouts.{IsRead, entries_done, entries_fit, entry_read, entry_stop, ordered_field}
use Rattle.bsi_input.proofs.format.SchemaRowFormat.read_entries.Goals.{After-field-text}
use Rattle.bsi_input.proofs.format.SchemaRowFormat.read_entries.Goals as goal

-- the next column has a field, and limits of its own
next : (c : goal.After-field-text) → let self = c.args.self.now in let k = length c.columns.yielded in
    (k < length self.columns) × (c.in-Some.limits.now ≡ limits_of (column_at self.columns k))
    × (entry_in c.signed-signed.result c.in-Some.limits.now c.field-text.result.now
    ≡ entry_in self.signed (limits_of (column_at self.columns k)) (get_or (fields_at c.args.indexes.now (fields_of c.args.fields.now)) k []))
next c =
    let self = c.args.self.now in
    let columns = self.columns in
    let indexes = c.args.indexes.now in
    let fields = fields_of c.args.fields.now in
    let k = length c.columns.yielded in
    let limits = c.limits.result.now in
    let own = c.in-Some.limits.now in
    let text = c.field-text.result.now in
    let are : limits ≡ map limits_of columns = c.limits.ensures.limits in
    let turn = zip_turn indexes limits c.columns.yielded c.into_iter-index-iterator.result c.columns.index-iterator c.next.new.self _ (search rules) (search rules)
    c.columns.yielded_by (c.in-Some.index, c.in-Some.limits) c.in-Some.is c.next.ensures.steps in
    let there : k < length columns = omega (arith, turn.1, limits_long columns limits are) in
    let own_is = turn.3 own ∙ ap (λ l. get_or l k own) are ∙ get_or-map limits_of columns k no_column own there in
    let text_is = c.field-text.ensures.value ∙ ap (λ at. get_or fields at []) (turn.2 0) ∙ ordered_field indexes fields k (omega (arith, there, c.requires.many)) in (
      there,
      own_is,
      ap (λ s. entry_in s own text) c.signed-signed.ensures ∙ ap (λ l. entry_in self.signed l text) own_is
          ∙ ap (entry_in self.signed (limits_of (column_at columns k))) text_is,
    )

pub read_entry-requires : goal.read_entry-requires
read_entry-requires c =
    let columns = c.args.self.now.columns in
    let k = length c.columns.yielded in
    let at = next (goal.at.read_entry-requires c).After-field-text in
    subst (λ (l : Limits). (l.least +ℤ pos l.size) ≤ℤ pos (2 ^ 63)) (sym at.1) (All-get_or IsColumn columns k no_column at.0 c.limits.ensures.columns).below

pub returns-in_default-clause-row : goal.returns-in_default-clause-row
returns-in_default-clause-row c =
    let at = next (goal.at.returns-in_default-clause-row c).After-field-text in
    let in_row = fields_at c.args.indexes.now (fields_of c.args.fields.now) in
    let long = length-map c.args.indexes.now (λ index. get_or (fields_of c.args.fields.now) index []) ∙ c.requires.many in
    entry_stop c.args.self.now in_row (length c.columns.yielded) c.columns.entries.items long c.columns.invariant.read at.0
    (sym at.2 ∙ sym c.read_entry.ensures ∙ c.in_default.is)

pub columns-preserved : goal.columns-preserved
columns-preserved c =
    let self = c.args.self.now in
    let k = length c.columns.yielded in
    let at = next (goal.at.columns-preserved c).After-field-text in
    let in_row = fields_at c.args.indexes.now (fields_of c.args.fields.now) in
    let long = length-map c.args.indexes.now (λ index. get_or (fields_of c.args.fields.now) index []) ∙ c.requires.many in
    let more = entry_read self in_row k c.columns.entries.items long c.columns.invariant.read c.in-Some-read_entry.entry at.0
    (sym at.2 ∙ sym c.read_entry.ensures ∙ c.in-Some-read_entry.is) in
    record {
      read = subst (λ n. IsRead self in_row n c.push_reserved.new.self.items) (sym (length_push c.columns.yielded (c.in-Some.index, c.in-Some.limits)))
          (subst (IsRead self in_row (k + 1)) (sym c.push_reserved.ensures.items) more);
      room = omega (arith, c.columns.invariant.room, c.push_reserved.ensures.capacity);
    }

-- a turn for each column
ended : (c : goal.In-None) → length c.columns.yielded ≡ length c.args.self.now.columns
ended c =
    let columns = c.args.self.now.columns in
    let indexes = c.args.indexes.now in
    let limits = c.limits.result.now in
    let are = c.limits.ensures.limits in
    let long : length limits ≤ length indexes = omega (arith, limits_long columns limits are, c.requires.many) in
    zip_end indexes limits c.columns.yielded c.into_iter-index-iterator.result c.columns.index-iterator c.next.new.self _ (search rules) (search rules)
    c.columns.yielded_by c.in-None.is c.next.ensures.steps ∙ min-eq_right long ∙ limits_long columns limits are

pub returns-clause-row : goal.returns-clause-row
returns-clause-row c =
    let in_row = fields_at c.args.indexes.now (fields_of c.args.fields.now) in
    let long = length-map c.args.indexes.now (λ index. get_or (fields_of c.args.fields.now) index []) ∙ c.requires.many in
    entries_done c.args.self.now in_row (length c.columns.yielded) c.columns.entries.items long c.columns.invariant.read (ended c)

pub returns-clause-fits : goal.returns-clause-fits
returns-clause-fits c = λ yes.
    let in_row = fields_at c.args.indexes.now (fields_of c.args.fields.now) in
    let long = length-map c.args.indexes.now (λ index. get_or (fields_of c.args.fields.now) index []) ∙ c.requires.many in
    entries_fit c.args.self.now in_row (length c.columns.yielded) c.columns.entries.items long c.columns.invariant.read (ended c)
