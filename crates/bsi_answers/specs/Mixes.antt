-- Interleavings of the rows of several files.
use Rattle.std.specs.Prelude.{◌≡◌, ℕ, suc, List, [], ◌∷◌, ◌++◌, map}
use Rattle.bsi_rows.specs.Runs.{rows_from}
use Rattle.bsi_rows.specs.Rows.{Entries, SourcedRow}
use Rattle.bsi_answers.specs.RowFiles.{file_at, RowFile}

-- The rows of files, one file after the other. Feeder n is that of the first file.
abbrev pub file_by_file : ℕ → List (List Entries) → List SourcedRow
file_by_file n [] = []
file_by_file n (rows ∷ lists) = map (λ row. (n, row)) rows ++ file_by_file (suc n) lists

-- An interleaving of the rows of all files: the rows of each file are in their order.
abbrev pub IsInterleavingOf : List RowFile → List SourcedRow → Type 0
IsInterleavingOf files rows = (f : ℕ) → rows_from f rows ≡ (file_at files f).rows

-- Two lists have the same rows of each feeder, in the same order.
abbrev pub HaveSameFeederRows : List SourcedRow → List SourcedRow → Type 0
HaveSameFeederRows a b = (f : ℕ) → rows_from f a ≡ rows_from f b
