-- The form of the column that a test asks for (`column_form`), and whether there is such a column (`IsWide`).
use Rattle.std.specs.Prelude.{◌≡◌, ◌≤◌, List, ℕ, None, reverse}
use Rattle.bsi_columns.specs.AnyColumns.{AnyForm, slices_of, equality_under, range_under}
use Rattle.bsi_digits.specs.Refusal.{refusal}
use Rattle.bsi_schema.specs.Columns.{max_slices}
use Rattle.bsi_fixtures.specs.declared.columns.TestForm.{TestForm}
use Rattle.bsi_fixtures.specs.declared.columns.TestForm.TheVariants.{Slices, Equality, Range}
use Rattle.bsi_fixtures.specs.declared.columns.Wide.{Wide}

-- the form of a column of a width, with the bases least significant first
abbrev pub column_form : TestForm → Wide → AnyForm
column_form Slices wide = slices_of wide.width
column_form Equality wide = equality_under (reverse wide.bases.now)
column_form Range wide = range_under (reverse wide.bases.now)

-- a column can have `width` slices
abbrev pub IsWidth : ℕ → Type 0
IsWidth width = (1 ≤ width) × (width ≤ max_slices)

-- the list is an accepted list of bases, as written
abbrev pub AreBases : List ℕ → Type 0
AreBases list = refusal list ≡ None

-- there is a column of the form and the width
abbrev pub IsWide : TestForm → Wide → Type 0
IsWide Slices wide = IsWidth wide.width
IsWide Equality wide = AreBases wide.bases.now
IsWide Range wide = AreBases wide.bases.now
