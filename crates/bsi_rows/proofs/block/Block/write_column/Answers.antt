use Rattle.std.proofs.Common.{◌≡◌, ◌+◌, ◌*◌, ◌<◌, ◌++◌, List, None, All, drop, get_or, length, set, take, true, arith, ap, subst, sym, ◌∙◌}
use Rattle.std.proofs.lemmas.List.Elements.{All-get_or}
use Rattle.bsi_schema.specs.Columns.{column_at, fits, is_accepted_by}
use Rattle.bsi_schema.specs.declared.limits.Limits.{Limits}
use Rattle.bsi_digits.specs.Blocks.{value_entries, value_entry}
use Rattle.bsi_digits.specs.Offsets.{IsInRange}
use Rattle.bsi_digits.proofs.BlockEntries.{get_or-value_entries, length-value_entries}
use Rattle.bsi_rows.specs.RowBlocks.{least_at, cell_entry, rows_of_cells, IsBlock, IsValueAt, RowBlock}
use Rattle.bsi_rows.specs.Rows.{column_of, feeders_of}
use Rattle.bsi_bits.specs.Packed.{end_of_u64}
use Rattle.bsi_rows.proofs.BlockCells.{block_written, column_unchanged, column_written, accepted_from, written_back}
use Rattle.bsi_rows.proofs.BlockRows.{feeders-rows_of_cells, length-rows_of_cells, All-rows_of_cells}
use Rattle.bsi_rows.proofs.block.Block.write_column.Goals as goal

pub write_values-requires-clause-few : goal.write_values-requires-clause-few
write_values-requires-clause-few c =
    let i = c.self.inside in
    let rows = length-rows_of_cells (length i.schema.value.columns) i.row_feeders.items (cell_entry i.limits.items i.numbers.items i.not_null.items) in
    omega (arith, c.requires.long, rows, ap (λ b. length b.rows) c.self.view_is, c.self.invariant.0.few)

pub write_values-requires-clause-range : goal.write_values-requires-clause-range
write_values-requires-clause-range c = λ r below.
    let i = c.self.inside in
    let columns = i.schema.value.columns in
    let s = c.self.invariant.0 in
    let within : c.args.c < length columns = omega (arith, c.requires.within, ap (λ b. length b.schema.columns) c.self.view_is) in
    let accepted : All (λ entry. is_accepted_by (column_at columns c.args.c) entry ≡ true) (value_entries c.args.values.now c.args.not_null) =
    subst (λ (b : RowBlock). All (λ entry. is_accepted_by (column_at b.schema.columns c.args.c) entry ≡ true) (value_entries c.args.values.now c.args.not_null)) (sym c.self.view_is) c.requires.accepted in
    let entry = value_entry c.args.values.now c.args.not_null r in
    subst (λ (limits : List Limits). IsInRange (least_at limits c.args.c) end_of_u64 entry) (sym c.deref.ensures.value)
    (accepted_from columns i.limits.items s.limits_are s.columns_are c.args.c entry within
    (ap (is_accepted_by (column_at columns c.args.c)) (sym (get_or-value_entries c.args.values.now c.args.not_null r below))
    ∙ All-get_or (λ entry. is_accepted_by (column_at columns c.args.c) entry ≡ true) (value_entries c.args.values.now c.args.not_null) r None (omega (arith, below, length-value_entries c.args.values.now c.args.not_null)) accepted))

pub invariant_of-self : goal.invariant_of-self
invariant_of-self c =
    let i = c.self.inside in
    let columns = i.schema.value.columns in
    let s = c.self.invariant.0 in
    let w = c.write_values.ensures in
    let raw = c.write_values.new.numbers in
    let numbers = written_back i.numbers.len raw (drop (length raw) i.numbers.items) (omega (arith, w.long, c.deref_mut.ensures.len)) in
    let rows = length-rows_of_cells (length columns) i.row_feeders.items (cell_entry i.limits.items i.numbers.items i.not_null.items) in
    let within : c.args.c < length columns = omega (arith, c.requires.within, ap (λ b. length b.schema.columns) c.self.view_is) in
    let many : length c.args.values.now ≡ length i.row_feeders.items = omega (arith, c.requires.long, rows, ap (λ b. length b.rows) c.self.view_is) in
    let accepted : All (λ entry. is_accepted_by (column_at columns c.args.c) entry ≡ true) (value_entries c.args.values.now c.args.not_null) =
    subst (λ (b : RowBlock). All (λ entry. is_accepted_by (column_at b.schema.columns c.args.c) entry ≡ true) (value_entries c.args.values.now c.args.not_null)) (sym c.self.view_is) c.requires.accepted in (
      subst (λ ns. IsBlock columns i.limits.items i.feeders i.row_feeders.items ns (set i.not_null.items c.args.c c.args.not_null)) (sym numbers)
          (block_written columns i.limits.items i.feeders i.row_feeders.items i.numbers.items i.not_null.items raw s c.args.values.now c.args.not_null c.args.c within many c.requires.clear accepted
          (w.long ∙ ap length c.deref_mut.ensures.value)
          (λ r below. subst (λ (limits : List Limits). IsValueAt limits c.args.values.now c.args.not_null raw c.args.c r) c.deref.ensures.value (w.written r below))
          (λ k s apart low. w.others k s apart low ∙ ap (λ ns. get_or ns (64 * k + s) 0) c.deref_mut.ensures.value)),
      c.self.invariant.1,
    )

pub returns-clause-column : goal.returns-clause-column
returns-clause-column c =
    let i = c.self.inside in
    let columns = i.schema.value.columns in
    let s = c.self.invariant.0 in
    let w = c.write_values.ensures in
    let raw = c.write_values.new.numbers in
    let numbers = written_back i.numbers.len raw (drop (length raw) i.numbers.items) (omega (arith, w.long, c.deref_mut.ensures.len)) in
    let rows = length-rows_of_cells (length columns) i.row_feeders.items (cell_entry i.limits.items i.numbers.items i.not_null.items) in
    let within : c.args.c < length columns = omega (arith, c.requires.within, ap (λ b. length b.schema.columns) c.self.view_is) in
    let many : length c.args.values.now ≡ length i.row_feeders.items = omega (arith, c.requires.long, rows, ap (λ b. length b.rows) c.self.view_is) in
    let accepted : All (λ entry. is_accepted_by (column_at columns c.args.c) entry ≡ true) (value_entries c.args.values.now c.args.not_null) =
    subst (λ (b : RowBlock). All (λ entry. is_accepted_by (column_at b.schema.columns c.args.c) entry ≡ true) (value_entries c.args.values.now c.args.not_null)) (sym c.self.view_is) c.requires.accepted in
    let words = set i.not_null.items c.args.c c.args.not_null in
    record {
      schema = ap (λ b. b.schema) c.self.view_is;
      feeders = ap (λ b. b.feeders) c.self.view_is;
      from =
          feeders-rows_of_cells (length columns) i.row_feeders.items (cell_entry i.limits.items (take i.numbers.len (raw ++ drop (length raw) i.numbers.items)) words)
          ∙ sym (feeders-rows_of_cells (length columns) i.row_feeders.items (cell_entry i.limits.items i.numbers.items i.not_null.items)) ∙ ap (λ b. feeders_of b.rows) c.self.view_is;
      written =
          ap (λ ns. column_of (rows_of_cells (length columns) i.row_feeders.items (cell_entry i.limits.items ns words)) c.args.c) numbers
          ∙ column_written columns i.limits.items i.feeders i.row_feeders.items i.numbers.items i.not_null.items raw s c.args.values.now c.args.not_null c.args.c within many c.requires.clear accepted
          (w.long ∙ ap length c.deref_mut.ensures.value)
          (λ r below. subst (λ (limits : List Limits). IsValueAt limits c.args.values.now c.args.not_null raw c.args.c r) c.deref.ensures.value (w.written r below))
          (λ k s apart low. w.others k s apart low ∙ ap (λ ns. get_or ns (64 * k + s) 0) c.deref_mut.ensures.value);
      others = λ k apart.
          ap (λ ns. column_of (rows_of_cells (length columns) i.row_feeders.items (cell_entry i.limits.items ns words)) k) numbers
          ∙ column_unchanged columns i.limits.items i.feeders i.row_feeders.items i.numbers.items i.not_null.items raw s c.args.values.now c.args.not_null c.args.c within many c.requires.clear accepted
          (w.long ∙ ap length c.deref_mut.ensures.value)
          (λ r below. subst (λ (limits : List Limits). IsValueAt limits c.args.values.now c.args.not_null raw c.args.c r) c.deref.ensures.value (w.written r below))
          (λ k s apart low. w.others k s apart low ∙ ap (λ ns. get_or ns (64 * k + s) 0) c.deref_mut.ensures.value) k apart ∙ ap (λ b. column_of b.rows k) c.self.view_is;
    }

pub returns-clause-fitting : goal.returns-clause-fitting
returns-clause-fitting c =
    let i = c.self.inside in
    let columns = i.schema.value.columns in
    let s = c.self.invariant.0 in
    let w = c.write_values.ensures in
    let raw = c.write_values.new.numbers in
    let numbers = written_back i.numbers.len raw (drop (length raw) i.numbers.items) (omega (arith, w.long, c.deref_mut.ensures.len)) in
    let rows = length-rows_of_cells (length columns) i.row_feeders.items (cell_entry i.limits.items i.numbers.items i.not_null.items) in
    let within : c.args.c < length columns = omega (arith, c.requires.within, ap (λ b. length b.schema.columns) c.self.view_is) in
    let many : length c.args.values.now ≡ length i.row_feeders.items = omega (arith, c.requires.long, rows, ap (λ b. length b.rows) c.self.view_is) in
    let accepted : All (λ entry. is_accepted_by (column_at columns c.args.c) entry ≡ true) (value_entries c.args.values.now c.args.not_null) =
    subst (λ (b : RowBlock). All (λ entry. is_accepted_by (column_at b.schema.columns c.args.c) entry ≡ true) (value_entries c.args.values.now c.args.not_null)) (sym c.self.view_is) c.requires.accepted in
    let words = set i.not_null.items c.args.c c.args.not_null in
    let block = subst (λ ns. IsBlock columns i.limits.items i.feeders i.row_feeders.items ns words) (sym numbers)
    (block_written columns i.limits.items i.feeders i.row_feeders.items i.numbers.items i.not_null.items raw s c.args.values.now c.args.not_null c.args.c within many c.requires.clear accepted
    (w.long ∙ ap length c.deref_mut.ensures.value)
    (λ r below. subst (λ (limits : List Limits). IsValueAt limits c.args.values.now c.args.not_null raw c.args.c r) c.deref.ensures.value (w.written r below))
    (λ k s apart low. w.others k s apart low ∙ ap (λ ns. get_or ns (64 * k + s) 0) c.deref_mut.ensures.value)) in
    All-rows_of_cells (length columns) i.row_feeders.items (cell_entry i.limits.items (take i.numbers.len (raw ++ drop (length raw) i.numbers.items)) words) (λ row. fits columns row.1 ≡ true) block.fitting
