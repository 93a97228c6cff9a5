-- Tallies, each the count, sum, least and greatest number of the selected rows with one entry in a column (`IsTally`).
use Rattle.std.specs.Prelude.{◌≡◌, ◌<◌, ◌+◌, ◌*◌, ◌^◌, ◌≤ℤ◌, ◌+ℤ◌, ℕ, ℤ, pos, Bool, List, Option, Some, None, length, map, nat_lt, slice_index_or, take, if◌then◌else◌}
use Rattle.std.specs.List.{filter_map, items_where_true}
use Rattle.bsi_digits.specs.Offsets.{number_of}
use Rattle.bsi_digits.specs.WholeNumbers.{signed_sum, IsSignedLeastOf, IsSignedGreatestOf}
use Rattle.bsi_rows.specs.Answers.{IsValue}
use Rattle.bsi_rows.specs.declared.query.Answer.{Answer}
use Rattle.bsi_rows.specs.declared.query.Answer.TheVariants.{Count as count_answer, Sum as sum_answer}
use Rattle.bsi_rows.specs.declared.query.Total.{Total}
use Rattle.bsi_rows.specs.declared.query.Total.TheVariants.{Count, Sum, Least, Greatest, Median, Rank, Rows}
use Rattle.bsi_shift.specs.Shifted.{shifted_entries, shifted_size, OffsetColumn}
use Rattle.bsi_aggregates.specs.Entries.{rows_having}
use Rattle.bsi_aggregates.specs.declared.tally.Tally.{Tally}

-- The numbers among entries.
abbrev pub numbers_of : List (Option ℤ) → List ℤ
numbers_of entries = filter_map (λ e. e) entries

-- The sum of a tally is at most 2^63 times its number of rows, above or below 0.
pub record IsWithin (tally : Tally) : Type 0 where
  pub most : tally.sum ≤ℤ pos (2 ^ 63 * tally.rows)
  pub fewest : pos 0 ≤ℤ (tally.sum +ℤ pos (2 ^ 63 * tally.rows))

-- The tally of rows with given entries.
pub record IsTally (entries : List (Option ℤ)) (tally : Tally) : Type 0 where
  -- The number of rows, those with a null too.
  pub rows : tally.rows ≡ length entries
  -- The sum is at most 2^63 times the number of rows, above or below 0.
  pub within : IsWithin tally
  -- The sum of the numbers among the entries.
  pub sum : tally.sum ≡ signed_sum (numbers_of entries)
  -- The least of the numbers, or none if each entry is null.
  pub least : IsSignedLeastOf (numbers_of entries) tally.least
  -- The greatest of the numbers, or none if each entry is null.
  pub greatest : IsSignedGreatestOf (numbers_of entries) tally.greatest

-- The total of rows, by their entries in the column that the total reads. Medians, ranks and lists need more.
abbrev pub IsTotalOf : Total → List (Option ℤ) → Answer → Type 0
IsTotalOf Count entries answer = answer ≡ count_answer (length entries)
IsTotalOf (Sum c) entries answer = answer ≡ sum_answer (signed_sum (numbers_of entries))
IsTotalOf (Least c) entries answer = IsValue (IsSignedLeastOf (numbers_of entries)) answer
IsTotalOf (Greatest c) entries answer = IsValue (IsSignedGreatestOf (numbers_of entries)) answer
IsTotalOf (Median c) entries answer = ⊥
IsTotalOf (Rank c rank) entries answer = ⊥
IsTotalOf Rows entries answer = ⊥

-- The column that a total reads, if it reads one.
abbrev pub total_column : Total → Option ℕ
total_column Count = None
total_column (Sum c) = Some c
total_column (Least c) = Some c
total_column (Greatest c) = Some c
total_column (Median c) = Some c
total_column (Rank c rank) = Some c
total_column Rows = None

-- The entries that a total reads: those of its column, or nulls if it reads no column.
abbrev pub entries_or_nulls : List Bool → Option (List (Option ℤ)) → List (Option ℤ)
entries_or_nulls selection (Some entries) = entries
entries_or_nulls selection None = map (λ _. None) selection

-- The entry that tally k counts: the number that is stored as k, or null after the last number.
abbrev pub tally_entry : ℤ → ℕ → ℕ → Option ℤ
tally_entry offset size k = if nat_lt k size then Some (number_of offset k) else None

-- The tally of an entry has this index.
abbrev pub IsTallyIndex : ℤ → ℕ → Option ℤ → ℕ → Type 0
IsTallyIndex offset size (Some n) k = (k < size) × (n ≡ number_of offset k)
IsTallyIndex offset size None k = k ≡ size

-- The entries that tally k has counted after n rows: those of the selected rows with its key.
abbrev pub tallied : OffsetColumn → List (Option ℤ) → List Bool → ℕ → ℕ → List (Option ℤ)
tallied keys entries selection n k =
    items_where_true (take n (rows_having (shifted_entries keys) selection (tally_entry keys.offset (shifted_size keys) k))) (take n entries)

-- There is a tally for each entry that the column may have. Each is of the selected ones among the first n rows.
pub record AreEntryTallies (keys : OffsetColumn) (entries : List (Option ℤ)) (selection : List Bool) (n : ℕ) (tallies : List Tally) : Type 0 where
  pub long : length tallies ≡ shifted_size keys + 1
  pub each : (k : ℕ) (d : Tally) → k < length tallies → IsTally (tallied keys entries selection n k) (slice_index_or tallies k d)
