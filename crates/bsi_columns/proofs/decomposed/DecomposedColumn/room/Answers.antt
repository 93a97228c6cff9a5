use Rattle.std.proofs.Common.{map, arith}
use Rattle.bsi_columns.specs.Decomposed.{entries_of}
use Rattle.bsi_columns.proofs.EntriesFrom.{rows_of}
use Rattle.bsi_columns.proofs.decomposed.DecomposedColumn.room.Goals as goal

pub returns-clause-within : goal.returns-clause-within
returns-clause-within g c =
    let inside = c.self.inside in
    let ds = map g.E.Encoding.digits inside.components.items in
    let entries = entries_of inside.bases inside.not_null.bits ds in
    let rows = rows_of inside.bases inside.not_null.bits ds entries c.self.invariant.0 in
    let within = c.self.invariant.2.within in
    rw (← c.self.view_is) (omega (arith, rows, within))
