use Rattle.std.proofs.Common.{List, ℕ}
use Rattle.std.specs.Prelude.{All}
use Rattle.bsi_rows.specs.Table.{Table}
use Rattle.bsi_storage.specs.ChosenFiles.{HasSizes, KeepsTable}
use Rattle.bsi_storage.proofs.FileWalk.{HasWalked}
use Rattle.bsi_storage.proofs.file_heads.read_heads.Given as goal

-- the heads so far, and where the next segment stands
abbrev pub invariant-segments : goal.invariant-segments
invariant-segments g l = record {
  walked : (t : Table) → (notes kinds : List ℕ) → (keeps : KeepsTable (g.R.ReadAt.all_bytes l.reader) t notes kinds)
      → HasWalked (g.R.ReadAt.all_bytes l.reader) t notes kinds keeps l.heads.items l.at;
  sizes : All HasSizes l.heads.items;
}
