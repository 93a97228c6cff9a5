use Rattle.std.proofs.Common.{map, arith}
use Rattle.bsi_columns.specs.Decomposed.{entries_of}
use Rattle.bsi_columns.proofs.EntriesFrom.{component_rows, rows_of}
use Rattle.bsi_columns.proofs.decomposed.DecomposedColumn.reserve.Goals as goal

pub reserve_each-requires : goal.reserve_each-requires
reserve_each-requires g c = λ k d within.
    let inside = c.self.inside in
    let digits = g.E.Encoding.digits in
    let ds = map digits inside.components.items in
    let entries = entries_of inside.bases inside.not_null.bits ds in
    let rows = rows_of inside.bases inside.not_null.bits ds entries c.self.invariant.0 in
    omega (arith, component_rows digits inside.components.items inside.bases inside.not_null.bits entries c.self.invariant.0 k d within, rows, c.len.ensures.len, c.room_to_make-growth.ensures.within)
