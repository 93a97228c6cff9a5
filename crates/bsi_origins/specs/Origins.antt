-- The feeder of each row, and tallies: counts by feeder before every 512th row.
use Rattle.std.specs.Prelude.{◌≡◌, ℕ, ◌+◌, ◌-◌, ◌*◌, ◌/◌, ◌<◌, ◌≤◌, List, All, length, nat_le, slice_index, if◌then◌else◌}
use Rattle.bsi_bits.specs.BitList.{max_len}
use Rattle.bsi_rows.specs.Numbering.{count_before}
use Rattle.bsi_rows.specs.Table.{max_feeders}

-- what a contract sees of an 'Origins': the feeder of each row, the number of feeders, and for how many more rows there
-- is room
pub record OriginList : Type 0 where
  pub rows : List ℕ
  pub feeders : ℕ
  pub room : ℕ

-- a row came from a feeder whose number is not below `feeders`
abbrev pub HasOtherFeeder : ℕ → List ℕ → Type 0
HasOtherFeeder feeders row_feeders =
    (r : ℕ) × (r < length row_feeders) × (feeders ≤ slice_index row_feeders r)

-- the counts of the first r rows, by feeder
abbrev pub AreCountsBefore : ℕ → List ℕ → ℕ → List ℕ → Type 0
AreCountsBefore feeders row_feeders r counts = (f : ℕ) → f < feeders → slice_index counts f ≡ count_before row_feeders r f

-- the number of counts of a tally: one for each feeder, and none if there is one feeder alone
abbrev pub tally_len : ℕ → ℕ
tally_len feeders = if nat_le feeders 1 then 0 else feeders

-- the rows of a chunk, each of which has a tally
abbrev pub chunk_rows : ℕ
chunk_rows = 512

-- the number of tallies of the rows: one for each chunk, of which the last may be shorter
abbrev pub tally_count : ℕ → ℕ
tally_count rows = (rows + (chunk_rows - 1)) / chunk_rows

-- tally k has the counts of the rows before chunk k; the tallies are listed one after the other
abbrev pub AreTallies : ℕ → List ℕ → List ℕ → Type 0
AreTallies len row_feeders tallies =
    (k f : ℕ) → chunk_rows * k < length row_feeders → f < len
    → slice_index tallies (len * k + f) ≡ count_before row_feeders (chunk_rows * k) f

-- the feeders of rows, with the counts of all rows and the tallies
pub record IsTallied (feeders : ℕ) (row_feeders counts tallies : List ℕ) : Type 0 where
  -- there is at least one feeder
  pub some : 1 ≤ feeders
  -- there are at most 64 feeders
  pub few : feeders ≤ max_feeders
  -- each row came from one of the feeders
  pub from : All (λ feeder. feeder < feeders) row_feeders
  -- there are 64 counts, however many feeders there are
  pub long : length counts ≡ max_feeders
  -- the counts are those of all rows
  pub counted : AreCountsBefore feeders row_feeders (length row_feeders) counts
  -- each chunk of rows has a tally: a count for each feeder, and none for one feeder alone
  pub many : length tallies ≡ tally_len feeders * tally_count (length row_feeders)
  -- each tally counts the rows of each feeder before the chunk
  pub each : AreTallies (tally_len feeders) row_feeders tallies

-- there is room for `room` more rows in lists of the feeders and the tallies with the given capacities
pub record HasRoomFor (room rows feeders rows_capacity tallies : ℕ) : Type 0 where
  pub within : rows + room ≤ max_len
  pub rows_fit : rows + room ≤ rows_capacity
  pub tallies_fit : tally_len feeders * tally_count (rows + room) ≤ tallies
