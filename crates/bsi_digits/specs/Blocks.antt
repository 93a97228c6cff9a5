-- A block of entries: a number for each row, and a word whose bit r tells whether entry r is a number or a null.
use Rattle.std.specs.Prelude.{◌≡◌, ℕ, ◌<◌, ◌^◌, ◌==◌, ℤ, pos, List, Option, Some, None, length, map, slice_index, slice_index_or, if◌then◌else◌}
use Rattle.std.specs.Int.{bit_at}
use Rattle.std.specs.List.{range_with_len}
use Rattle.std.specs.Option.{option_map}
use Rattle.bsi_digits.specs.Offsets.{number_of}

-- the number of a null is 0, and the word has no bit past the last row
pub record IsNumberBlock (numbers : List ℕ) (not_null : ℕ) : Type 0 where
  pub nulls : (r : ℕ) → bit_at not_null r ≡ 0 → slice_index numbers r ≡ 0
  pub clear : not_null < 2 ^ length numbers

-- entry r
abbrev pub block_entry : List ℕ → ℕ → ℕ → Option ℕ
block_entry numbers not_null r = if bit_at not_null r == 1 then Some (slice_index numbers r) else None

-- the entries, in order of the rows
unfoldable pub block_entries : List ℕ → ℕ → List (Option ℕ)
block_entries numbers not_null = map (block_entry numbers not_null) (range_with_len 0 (length numbers))

-- the entries of a block whose numbers are stored less an offset
abbrev pub offset_entries : ℤ → List ℕ → ℕ → List (Option ℤ)
offset_entries offset numbers not_null = map (option_map (number_of offset)) (block_entries numbers not_null)

-- entry r of a block of whole numbers, where the number of a null may be any
abbrev pub value_entry : List ℤ → ℕ → ℕ → Option ℤ
value_entry values not_null r = if bit_at not_null r == 1 then Some (slice_index_or values r (pos 0)) else None

-- the entries of a block of whole numbers, in order of the rows
unfoldable pub value_entries : List ℤ → ℕ → List (Option ℤ)
value_entries values not_null = map (value_entry values not_null) (range_with_len 0 (length values))
