-- Rows that are appended from another index, each as one of its own feeder, or all as those of one feeder.
use Rattle.std.specs.Prelude.{ℕ, ◌<◌, ◌≤◌, List, None, Option, Some, length, replicate}
use Rattle.bsi_rows.specs.RowBlocks.{entries_of, sourced_from}
use Rattle.bsi_rows.specs.Rows.{SourcedRow}

-- the rows, all of one feeder if a feeder is given
abbrev pub rows_as : Option ℕ → List SourcedRow → List SourcedRow
rows_as None rows = rows
rows_as (Some feeder) rows = sourced_from feeder (entries_of rows)

-- the feeder of each row: the given one, or else the feeder that the row had
abbrev pub feeders_as : Option ℕ → List ℕ → List ℕ
feeders_as None row_feeders = row_feeders
feeders_as (Some feeder) row_feeders = replicate (length row_feeders) feeder

-- n feeders are enough for the joined rows, where the other index has `others` feeders
abbrev pub AreEnough : ℕ → Option ℕ → ℕ → Type 0
AreEnough n None others = others ≤ n
AreEnough n (Some feeder) others = feeder < n
