use Rattle.std.proofs.Common.{◌≡◌, ◌<◌, List, ℕ, Some, length, ap, ap₂, sym, arith, ◌∙◌}
use Rattle.std.specs.Prelude.{slice_get}
use Rattle.bsi_schema.proofs.Fitting.{limits_long}
use Rattle.bsi_schema.specs.declared.limits.Limits.{Limits}
use Rattle.bsi_rows.specs.RowBlocks.{entries_of, cell_entry, row_of_cells}
use Rattle.bsi_rows.proofs.BlockRows.{length-rows_of_cells, row-rows_of_cells}
use Rattle.bsi_rows.proofs.block.Block.row.Goals as goal

pub read_row-requires-clause-long : goal.read_row-requires-clause-long
read_row-requires-clause-long c =
    let i = c.self.inside in
    omega (arith, c.self.invariant.0.long, limits_long i.schema.value.columns i.limits.items c.self.invariant.0.limits_are, ap length c.deref.ensures.value, ap length c.deref-2.ensures.value, ap length c.deref-3.ensures.value)

pub read_row-requires-clause-words : goal.read_row-requires-clause-words
read_row-requires-clause-words c =
    let i = c.self.inside in
    omega (arith, c.self.invariant.0.words, limits_long i.schema.value.columns i.limits.items c.self.invariant.0.limits_are, ap length c.deref.ensures.value, ap length c.deref-2.ensures.value, ap length c.deref-3.ensures.value)

pub read_row-requires-clause-slot : goal.read_row-requires-clause-slot
read_row-requires-clause-slot c =
    let i = c.self.inside in
    let rows = length-rows_of_cells (length i.schema.value.columns) i.row_feeders.items (cell_entry i.limits.items i.numbers.items i.not_null.items) in
    omega (arith, c.requires, rows, ap (λ b. length b.rows) c.self.view_is, c.self.invariant.0.few)

pub returns : goal.returns
returns c =
    let i = c.self.inside in
    let columns = length i.schema.value.columns in
    let entry = cell_entry i.limits.items i.numbers.items i.not_null.items in
    let rows = length-rows_of_cells columns i.row_feeders.items entry in
    let below : c.args.r < length i.row_feeders.items = omega (arith, c.requires, rows, ap (λ b. length b.rows) c.self.view_is) in
    let is : c.new.result ≡ row_of_cells columns entry c.args.r =
    let limits = i.limits.items in
    c.new.ensures ∙ c.in_ok-entries.ensures
    ∙ ap (λ (ls : List Limits). row_of_cells (length ls) (cell_entry ls c.deref-2.result.now c.deref-3.result.now) c.args.r) c.deref.ensures.value
    ∙ ap₂ (λ (numbers words : List ℕ). row_of_cells (length limits) (cell_entry limits numbers words) c.args.r) c.deref-2.ensures.value c.deref-3.ensures.value
    ∙ ap (λ n. row_of_cells n entry c.args.r) (limits_long i.schema.value.columns limits c.self.invariant.0.limits_are) in
    ap (λ b. slice_get (entries_of b.rows) c.args.r) (sym c.self.view_is)
    ∙ row-rows_of_cells columns i.row_feeders.items entry c.args.r below ∙ ap Some (sym is)
