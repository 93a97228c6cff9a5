-- What a contract sees of a column of any form (`AnyColumn`): its form, its size, its entries and its room.
use Rattle.std.specs.Prelude.{ℕ, ◌^◌, List, Option}
use Rattle.bsi_digits.specs.Digits.{product}
use Rattle.bsi_columns.specs.declared.any.AnyColumn.{AnyColumn}
use Rattle.bsi_columns.specs.declared.any.AnyColumn.TheVariants.{Slices, Equality, Range}

-- a form: slices of a width, or components of an encoding under bases
pub data AnyForm : Type 0 where
  slices_of : ℕ → AnyForm
  equality_under : List ℕ → AnyForm
  range_under : List ℕ → AnyForm

-- the form of a column
abbrev pub any_form : AnyColumn → AnyForm
any_form (Slices c) = slices_of c.width
any_form (Equality c) = equality_under c.bases
any_form (Range c) = range_under c.bases

-- the size of a form: each number is below the size
abbrev pub size_in_form : AnyForm → ℕ
size_in_form (slices_of width) = 2 ^ width
size_in_form (equality_under bs) = product bs
size_in_form (range_under bs) = product bs

-- the size of a column: each number is below the size
abbrev pub any_size : AnyColumn → ℕ
any_size c = size_in_form (any_form c)

-- the numbers and nulls, in order of the rows
abbrev pub any_entries : AnyColumn → List (Option ℕ)
any_entries (Slices c) = c.entries
any_entries (Equality c) = c.entries
any_entries (Range c) = c.entries

-- for how many more entries there is room
abbrev pub any_room : AnyColumn → ℕ
any_room (Slices c) = c.room
any_room (Equality c) = c.room
any_room (Range c) = c.room
