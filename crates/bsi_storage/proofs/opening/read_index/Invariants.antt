use Rattle.bsi_table.specs.Index.{table_of}
use Rattle.bsi_storage.specs.Faults.{HasReadTable}
use Rattle.bsi_storage.proofs.opening.read_index.Given as goal

-- the segments so far
abbrev pub invariant-segments : goal.invariant-segments
invariant-segments g l =
    HasReadTable (g.R.Read.remaining l.fn.reader) (g.R.Read.remaining l.reader) (table_of l.whole.index) l.whole.notes.items l.whole.kinds.items l.whole.bytes
