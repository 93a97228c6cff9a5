use Rattle.std.proofs.Common.{◌≡◌, ◌<◌, ℕ, List, [], ◌∷◌, ◌++◌, drop, length, true, ap, sym, subst, arith, ◌∙◌}
use Rattle.bsi_digits.specs.Offsets.{IsInRange}
use Rattle.bsi_schema.specs.Columns.{entry_at, fits, Entries}
use Rattle.bsi_schema.specs.declared.limits.Limits.{Limits}
use Rattle.bsi_schema.proofs.Fitting.{fits-length, limits_long}
use Rattle.bsi_rows.specs.RowBlocks.{least_at, cell_entry, rows_of_cells, with_block_row, IsBlock, IsSameCell, IsWrittenEntry}
use Rattle.bsi_bits.specs.Packed.{end_of_u64}
use Rattle.bsi_rows.proofs.BlockCells.{block_more, fitting_from, of_same, rows_more, same_before, written_back}
use Rattle.bsi_rows.proofs.BlockRows.{length-rows_of_cells}
use Rattle.bsi_rows.proofs.block.Block.push.Goals as goal

pub write_row-requires-clause-wide : goal.write_row-requires-clause-wide
write_row-requires-clause-wide c =
    let i = c.self.inside in
    let columns = i.schema.value.columns in
    let s = c.self.invariant.0 in
    let fit : fits columns c.args.row.now ≡ true = sym (c.accepts_row.ensures columns (c.deref.ensures.value ∙ s.limits_are)) ∙ c.if-not-accepts_row.false in
    omega (arith, fits-length columns c.args.row.now fit, ap length c.values.ensures, ap length c.deref-2.ensures.value, limits_long columns i.limits.items s.limits_are)

pub write_row-requires-clause-slot : goal.write_row-requires-clause-slot
write_row-requires-clause-slot c =
    let i = c.self.inside in
    let rows = length-rows_of_cells (length i.schema.value.columns) i.row_feeders.items (cell_entry i.limits.items i.numbers.items i.not_null.items) in
    omega (arith, c.len-at.ensures, rows, ap (λ b. length b.rows) c.self.view_is, c.requires.room)

pub write_row-requires-clause-range : goal.write_row-requires-clause-range
write_row-requires-clause-range c =
    let i = c.self.inside in
    let columns = i.schema.value.columns in
    let s = c.self.invariant.0 in
    let fit : fits columns c.args.row.now ≡ true = sym (c.accepts_row.ensures columns (c.deref.ensures.value ∙ s.limits_are)) ∙ c.if-not-accepts_row.false in
    subst (λ (limits : List Limits). (k : ℕ) → k < length limits → IsInRange (least_at limits k) end_of_u64 (entry_at c.values.result.now k)) (sym c.deref-2.ensures.value)
    (subst (λ (row : Entries). (k : ℕ) → k < length i.limits.items → IsInRange (least_at i.limits.items k) end_of_u64 (entry_at row k)) (sym c.values.ensures)
    (fitting_from columns i.limits.items s.limits_are s.columns_are c.args.row.now fit))

pub push_reserved-requires : goal.push_reserved-requires
push_reserved-requires c =
    let i = c.self.inside in
    let rows = length-rows_of_cells (length i.schema.value.columns) i.row_feeders.items (cell_entry i.limits.items i.numbers.items i.not_null.items) in
    omega (arith, rows, ap (λ b. length b.rows) c.self.view_is, c.requires.room, c.self.invariant.1)

pub invariant_of-self : goal.invariant_of-self
invariant_of-self c =
    let i = c.self.inside in
    let columns = i.schema.value.columns in
    let s = c.self.invariant.0 in
    let w = c.write_row.ensures in
    let cells_before : (k r : ℕ) → IsSameCell c.deref_mut.result.now c.deref_mut-2.result.now c.write_row.new.numbers c.write_row.new.not_null k r
    → IsSameCell i.numbers.items i.not_null.items c.write_row.new.numbers c.write_row.new.not_null k r =
    λ k r same. same_before c.deref_mut.result.now i.numbers.items c.deref_mut-2.result.now i.not_null.items c.write_row.new.numbers c.write_row.new.not_null k r c.deref_mut.ensures.value c.deref_mut-2.ensures.value same in
    let numbers = written_back i.numbers.len c.write_row.new.numbers (drop (length c.write_row.new.numbers) i.numbers.items) (omega (arith, w.long, c.deref_mut.ensures.len)) in
    let words = written_back i.not_null.len c.write_row.new.not_null (drop (length c.write_row.new.not_null) i.not_null.items) (omega (arith, w.words, c.deref_mut-2.ensures.len)) in
    let rows = length-rows_of_cells (length columns) i.row_feeders.items (cell_entry i.limits.items i.numbers.items i.not_null.items) in
    let fit : fits columns c.args.row.now ≡ true = sym (c.accepts_row.ensures columns (c.deref.ensures.value ∙ s.limits_are)) ∙ c.if-not-accepts_row.false in
    let room : c.len-at.result < 64 = omega (arith, c.len-at.ensures, rows, ap (λ b. length b.rows) c.self.view_is, c.requires.room) in
    let fed : c.args.feeder < i.feeders = omega (arith, ap (λ b. b.feeders) c.self.view_is, c.requires.feeder) in (
      of_same (IsBlock columns i.limits.items i.feeders) c.push_reserved.ensures.items numbers words
          (block_more columns i.limits.items i.feeders i.row_feeders.items i.numbers.items i.not_null.items c.write_row.new.numbers c.write_row.new.not_null s
          c.args.feeder c.len-at.result c.args.row.now (omega (arith, c.len-at.ensures)) room fed fit (w.long ∙ ap length c.deref_mut.ensures.value) (w.words ∙ ap length c.deref_mut-2.ensures.value)
          (λ k r near apart. cells_before k r (w.other_rows k r near apart))
          (λ k within. subst (λ (limits : List Limits). IsWrittenEntry limits c.write_row.new.numbers c.write_row.new.not_null k c.len-at.result (entry_at c.args.row.now k)) c.deref-2.ensures.value
          (subst (λ (row : Entries). IsWrittenEntry c.deref-2.result.now c.write_row.new.numbers c.write_row.new.not_null k c.len-at.result (entry_at row k)) c.values.ensures
          (w.written k (omega (arith, within, ap length c.deref-2.ensures.value, limits_long columns i.limits.items s.limits_are)))))),
      omega (arith, c.self.invariant.1, c.push_reserved.ensures.capacity),
    )

pub returns-clause-added : goal.returns-clause-added
returns-clause-added c = λ yes.
    let i = c.self.inside in
    let columns = i.schema.value.columns in
    let s = c.self.invariant.0 in
    let w = c.write_row.ensures in
    let cells_before : (k r : ℕ) → IsSameCell c.deref_mut.result.now c.deref_mut-2.result.now c.write_row.new.numbers c.write_row.new.not_null k r
    → IsSameCell i.numbers.items i.not_null.items c.write_row.new.numbers c.write_row.new.not_null k r =
    λ k r same. same_before c.deref_mut.result.now i.numbers.items c.deref_mut-2.result.now i.not_null.items c.write_row.new.numbers c.write_row.new.not_null k r c.deref_mut.ensures.value c.deref_mut-2.ensures.value same in
    let numbers = written_back i.numbers.len c.write_row.new.numbers (drop (length c.write_row.new.numbers) i.numbers.items) (omega (arith, w.long, c.deref_mut.ensures.len)) in
    let words = written_back i.not_null.len c.write_row.new.not_null (drop (length c.write_row.new.not_null) i.not_null.items) (omega (arith, w.words, c.deref_mut-2.ensures.len)) in
    let rows = length-rows_of_cells (length columns) i.row_feeders.items (cell_entry i.limits.items i.numbers.items i.not_null.items) in
    let fit : fits columns c.args.row.now ≡ true = sym (c.accepts_row.ensures columns (c.deref.ensures.value ∙ s.limits_are)) ∙ c.if-not-accepts_row.false in
    let room : c.len-at.result < 64 = omega (arith, c.len-at.ensures, rows, ap (λ b. length b.rows) c.self.view_is, c.requires.room) in
    let fed : c.args.feeder < i.feeders = omega (arith, ap (λ b. b.feeders) c.self.view_is, c.requires.feeder) in
    ap (λ xs. record { schema = i.schema.value; feeders = i.feeders; rows = xs })
    (of_same (λ xs ns ws. rows_of_cells (length columns) xs (cell_entry i.limits.items ns ws) ≡ rows_of_cells (length columns) i.row_feeders.items (cell_entry i.limits.items i.numbers.items i.not_null.items) ++ (c.args.feeder, c.args.row.now) ∷ []) c.push_reserved.ensures.items numbers words
    (rows_more columns i.limits.items i.feeders i.row_feeders.items i.numbers.items i.not_null.items c.write_row.new.numbers c.write_row.new.not_null s
    c.args.feeder c.len-at.result c.args.row.now (omega (arith, c.len-at.ensures)) room fed fit (w.long ∙ ap length c.deref_mut.ensures.value) (w.words ∙ ap length c.deref_mut-2.ensures.value)
    (λ k r near apart. cells_before k r (w.other_rows k r near apart))
    (λ k within. subst (λ (limits : List Limits). IsWrittenEntry limits c.write_row.new.numbers c.write_row.new.not_null k c.len-at.result (entry_at c.args.row.now k)) c.deref-2.ensures.value
    (subst (λ (row : Entries). IsWrittenEntry c.deref-2.result.now c.write_row.new.numbers c.write_row.new.not_null k c.len-at.result (entry_at row k)) c.values.ensures
    (w.written k (omega (arith, within, ap length c.deref-2.ensures.value, limits_long columns i.limits.items s.limits_are)))))))
    ∙ ap (λ b. with_block_row b c.args.feeder c.args.row.now) c.self.view_is
