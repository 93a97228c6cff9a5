use Rattle.std.proofs.Common.{◌≡◌, List, Option, ℕ, length, take}
use Rattle.bsi_rows.specs.Table.{Table}
use Rattle.bsi_storage.specs.ChosenFiles.{parts_in, AreFileHeads}
use Rattle.bsi_storage.proofs.FileWalk.{rows_in}
use Rattle.bsi_storage.proofs.file_heads.FileHeads.count_rows.Given as goal

-- the rows of the first segments
abbrev pub invariant-segments : goal.invariant-segments
invariant-segments l =
    (known : Option (List ℕ)) → (t : Table) → (notes kinds : List ℕ) → (are : AreFileHeads known l.self.heads.items t notes kinds)
    → l.count ≡ length (rows_in (take l.head-index (parts_in are.keeps)))
