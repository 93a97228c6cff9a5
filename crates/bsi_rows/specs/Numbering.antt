-- The origins of rows: each row by its feeder and its number among the feeder's rows.
use Rattle.std.specs.Prelude.{ℕ, List, count_by, map, nat_eq, slice_index, take}

-- the origin of a row: its feeder, and its number among the rows of that feeder
abbrev pub Origin : Type 0
Origin = ℕ × ℕ

abbrev pub origin_feeder : Origin → ℕ
origin_feeder origin = origin.0

abbrev pub origin_number : Origin → ℕ
origin_number origin = origin.1

-- the number of rows of a feeder among the first r rows
abbrev pub count_before : List ℕ → ℕ → ℕ → ℕ
count_before row_feeders r feeder = count_by (λ row_feeder. nat_eq row_feeder feeder) (take r row_feeders)

-- the number of row r among the rows of its feeder: how many rows of the same feeder come before row r
abbrev pub number_within : List ℕ → ℕ → ℕ
number_within row_feeders r = count_before row_feeders r (slice_index row_feeders r)

-- the origins of the rows at the listed positions
abbrev pub numbered_at : List ℕ → List ℕ → List Origin
numbered_at row_feeders positions = map (λ r. (slice_index row_feeders r, number_within row_feeders r)) positions
