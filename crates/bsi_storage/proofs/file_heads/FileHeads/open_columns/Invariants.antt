use Rattle.std.proofs.Common.{◌≡◌, List, ℕ, take}
use Rattle.bsi_projection.specs.Chosen.{chosen_table}
use Rattle.bsi_rows.specs.Table.{Table}
use Rattle.bsi_storage.specs.ChosenFiles.{parts_in, AreFileHeads, SaysAllChosen}
use Rattle.bsi_storage.specs.Saved.{with_only}
use Rattle.bsi_table.specs.Index.{table_of}
use Rattle.bsi_storage.proofs.FileWalk.{rows_in}
use Rattle.bsi_storage.proofs.file_heads.FileHeads.open_columns.Given as goal

-- the chosen columns of the first segments
abbrev pub invariant-segments : goal.invariant-segments
invariant-segments g l = record {
  first : (t : Table) → (notes kinds : List ℕ) → (are : AreFileHeads (g.R.ReadAt.all_bytes l.reader) l.self.heads.items t notes kinds)
      → table_of l.whole ≡ chosen_table l.chosen (with_only t (rows_in (take l.k (parts_in are.keeps))));
  said : SaysAllChosen (g.R.ReadAt.all_bytes l.reader) (take l.k l.self.heads.items) l.chosen l.whole.schema l.whole.rows;
}
