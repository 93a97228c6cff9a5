-- The column that a test declares, as a schema has it (`as_column`), and predicates that tests make of others.
use Rattle.std.specs.Prelude.{◌≡◌, Bool, ◌&&◌, ◌||◌, not, reverse, pos}
use Rattle.std.specs.Ordering.{int_eq}
use Rattle.bsi_schema.specs.declared.form.Form.{Form as StoredForm}
use Rattle.bsi_schema.specs.declared.form.Form.TheVariants.{Slices as stored_slices, Equality as stored_equality, Range as stored_range}
use Rattle.bsi_schema.specs.Columns.{named_column, NamedColumn}
use Rattle.bsi_rows.specs.declared.query.Pred.{Pred}
use Rattle.bsi_rows.specs.Rows.{holds, Entries}
use Rattle.bsi_fixtures.specs.declared.tables.DeclaredColumn.{DeclaredColumn}
use Rattle.bsi_fixtures.specs.declared.columns.TestForm.{TestForm}
use Rattle.bsi_fixtures.specs.declared.columns.TestForm.TheVariants.{Slices, Equality, Range}
use Rattle.bsi_fixtures.specs.declared.columns.Wide.{Wide}

-- the form of a column, with the bases least significant first
abbrev pub stored_form : TestForm → Wide → StoredForm
stored_form Slices wide = stored_slices wide.width
stored_form Equality wide = stored_equality (reverse wide.bases.now)
stored_form Range wide = stored_range (reverse wide.bases.now)

-- the column as a schema declares the column
abbrev pub as_column : DeclaredColumn → NamedColumn
as_column column = named_column column.name.now (stored_form column.form column.wide) column.offset

-- the numbers of the column do not begin at 0
abbrev pub has_offset : DeclaredColumn → Bool
has_offset column = not (int_eq column.offset (pos 0))

-- one predicate holds where the other does not
abbrev pub IsNegation : Pred → Pred → Type 0
IsNegation pred made = (row : Entries) → holds made row ≡ not (holds pred row)

-- a predicate holds where both others do
abbrev pub IsBoth : Pred → Pred → Pred → Type 0
IsBoth first second made = (row : Entries) → holds made row ≡ (holds first row && holds second row)

-- The predicate selects the rows that one of two others selects, or both.
abbrev pub IsEither : Pred → Pred → Pred → Type 0
IsEither first second made = (row : Entries) → holds made row ≡ (holds first row || holds second row)
