use Rattle.std.proofs.Common.{◌≡◌, ◌*◌, ◌+◌, ◌<◌, ◌≤◌, ◌++◌, None, drop, get_or, length, replicate, refl, ap, arith, ◌∙◌}
use Rattle.bsi_schema.proofs.Fitting.{limits_long}
use Rattle.bsi_rows.specs.RowBlocks.{cell_entry, rows_of_cells, with_null_rows, IsBlock}
use Rattle.bsi_rows.proofs.BlockCells.{null_block_more, null_rows_more, of_same, written_back}
use Rattle.bsi_rows.proofs.BlockRows.{length-rows_of_cells}
use Rattle.bsi_rows.proofs.block.Block.push_nulls.Goals as goal

pub write_nulls-requires-clause-within : goal.write_nulls-requires-clause-within
write_nulls-requires-clause-within c =
    let i = c.self.inside in
    let rows = length-rows_of_cells (length i.schema.value.columns) i.row_feeders.items (cell_entry i.limits.items i.numbers.items i.not_null.items) in
    (omega arith, omega (arith, c.len-from.ensures, rows, ap (λ b. length b.rows) c.self.view_is, c.requires.room))

pub push_feeder-requires : goal.push_feeder-requires
push_feeder-requires c =
    let i = c.self.inside in
    let rows = length-rows_of_cells (length i.schema.value.columns) i.row_feeders.items (cell_entry i.limits.items i.numbers.items i.not_null.items) in
    omega (arith, rows, ap (λ b. length b.rows) c.self.view_is, c.requires.room, c.self.invariant.1)

pub invariant_of-self : goal.invariant_of-self
invariant_of-self c =
    let i = c.self.inside in
    let columns = i.schema.value.columns in
    let s = c.self.invariant.0 in
    let w = c.write_nulls.ensures in
    let numbers = written_back i.numbers.len c.write_nulls.new.numbers (drop (length c.write_nulls.new.numbers) i.numbers.items) (omega (arith, w.long, c.deref_mut.ensures.len)) in
    let rows = length-rows_of_cells (length columns) i.row_feeders.items (cell_entry i.limits.items i.numbers.items i.not_null.items) in
    let room : length i.row_feeders.items + c.args.rows ≤ 64 = omega (arith, rows, ap (λ b. length b.rows) c.self.view_is, c.requires.room) in
    let fed : c.args.feeder < i.feeders = omega (arith, ap (λ b. b.feeders) c.self.view_is, c.requires.feeder) in
    let from : c.len-from.result ≡ length i.row_feeders.items = omega (arith, c.len-from.ensures) in
    let wide : c.len.result ≡ length columns = omega (arith, c.len.ensures, limits_long columns i.limits.items s.limits_are) in (
      of_same (IsBlock columns i.limits.items i.feeders) c.push_feeder.ensures.items numbers refl
          (null_block_more columns i.limits.items i.feeders i.row_feeders.items i.numbers.items i.not_null.items c.write_nulls.new.numbers s c.args.feeder c.args.rows room fed
          (w.long ∙ ap length c.deref_mut.ensures.value)
          (λ k r within past below. w.zero k r (omega (arith, within, wide)) (omega (arith, past, from)) (omega (arith, below, from)))
          (λ k r below. w.others k r (omega (arith, below, from)) ∙ ap (λ ns. get_or ns (64 * k + r) 0) c.deref_mut.ensures.value)),
      omega (arith, c.self.invariant.1, c.push_feeder.ensures.room),
    )

pub returns : goal.returns
returns c =
    let i = c.self.inside in
    let columns = i.schema.value.columns in
    let s = c.self.invariant.0 in
    let w = c.write_nulls.ensures in
    let numbers = written_back i.numbers.len c.write_nulls.new.numbers (drop (length c.write_nulls.new.numbers) i.numbers.items) (omega (arith, w.long, c.deref_mut.ensures.len)) in
    let rows = length-rows_of_cells (length columns) i.row_feeders.items (cell_entry i.limits.items i.numbers.items i.not_null.items) in
    let room : length i.row_feeders.items + c.args.rows ≤ 64 = omega (arith, rows, ap (λ b. length b.rows) c.self.view_is, c.requires.room) in
    let fed : c.args.feeder < i.feeders = omega (arith, ap (λ b. b.feeders) c.self.view_is, c.requires.feeder) in
    let from : c.len-from.result ≡ length i.row_feeders.items = omega (arith, c.len-from.ensures) in
    let wide : c.len.result ≡ length columns = omega (arith, c.len.ensures, limits_long columns i.limits.items s.limits_are) in
    ap (λ xs. record { schema = i.schema.value; feeders = i.feeders; rows = xs })
    (of_same (λ xs ns ws. rows_of_cells (length columns) xs (cell_entry i.limits.items ns ws) ≡ rows_of_cells (length columns) i.row_feeders.items (cell_entry i.limits.items i.numbers.items i.not_null.items) ++ replicate c.args.rows (c.args.feeder, replicate (length columns) None)) c.push_feeder.ensures.items numbers refl
    (null_rows_more columns i.limits.items i.feeders i.row_feeders.items i.numbers.items i.not_null.items c.write_nulls.new.numbers s c.args.feeder c.args.rows room fed
    (w.long ∙ ap length c.deref_mut.ensures.value)
    (λ k r within past below. w.zero k r (omega (arith, within, wide)) (omega (arith, past, from)) (omega (arith, below, from)))
    (λ k r below. w.others k r (omega (arith, below, from)) ∙ ap (λ ns. get_or ns (64 * k + r) 0) c.deref_mut.ensures.value) c.args.rows (omega arith)))
    ∙ ap (λ b. with_null_rows b c.args.feeder c.args.rows) c.self.view_is
