-- A column of whole numbers, each of which is stored less an offset (`IsShifted`).
use Rattle.std.specs.Prelude.{◌≡◌, ℕ, ◌<◌, ◌≤◌, All, ℤ, pos, ◌+ℤ◌, ◌≤ℤ◌, List, Option, map}
use Rattle.std.specs.Option.{option_map}
use Rattle.bsi_digits.specs.Digits.{max_end, max_size}
use Rattle.bsi_columns.specs.declared.any.AnyColumn.{AnyColumn}
use Rattle.bsi_columns.specs.AnyColumns.{any_entries, any_form, any_room, any_size}
use Rattle.bsi_digits.specs.Offsets.{number_of}
use Rattle.bsi_digits.specs.Comparisons.{number_or_zero}

-- what a contract sees of the column: the column of stored numbers, and the offset
pub record OffsetColumn : Type 0 where
  pub stored : AnyColumn
  pub offset : ℤ

-- the numbers and nulls, in order of the rows
unfoldable pub shifted_entries : OffsetColumn → List (Option ℤ)
shifted_entries c = map (option_map (number_of c.offset)) (any_entries c.stored)

-- the size: the number of numbers, from the offset on, that an entry may be
abbrev pub shifted_size : OffsetColumn → ℕ
shifted_size c = any_size c.stored

-- for how many more entries there is room
abbrev pub shifted_room : OffsetColumn → ℕ
shifted_room c = any_room c.stored

-- two columns have the same offset and form, so the same size and bases
pub record IsAlike (old new : OffsetColumn) : Type 0 where
  pub offset : new.offset ≡ old.offset
  pub form : any_form new.stored ≡ any_form old.stored

-- a column of the numbers from the offset on and below the sum of offset and size
pub record IsShifted (stored : AnyColumn) (offset : ℤ) (size : ℕ) : Type 0 where
  -- the size is that of the stored column
  pub size_is : size ≡ any_size stored
  -- the size is at most 2^63
  pub small : size ≤ max_size
  -- the size is at least 2
  pub some : 2 ≤ size
  -- all numbers are below 2^63
  pub within : (offset +ℤ pos size) ≤ℤ pos max_end
  -- each stored number is below the size
  pub below : All (λ e. number_or_zero e < size) (any_entries stored)
