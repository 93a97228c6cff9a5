-- Groups of selected rows by their entries in one column.
use Rattle.std.specs.Prelude.{◌<◌, ℕ, ℤ, Bool, List, Option, All, Contains, IsTrue, length, map}
use Rattle.std.specs.List.{items_where_true, AllPairs}
use Rattle.bsi_rows.specs.Rows.{column_of, SourcedRow}
use Rattle.bsi_rows.specs.declared.query.Total.{Total}
use Rattle.bsi_table.specs.Totals.{IsTotalAt}
use Rattle.bsi_aggregates.specs.Entries.{comes_before, rows_having}
use Rattle.bsi_aggregates.specs.declared.column_groups.ColumnGroup.{ColumnGroup}
use Rattle.bsi_aggregates.specs.declared.grouping.GroupError.{GroupError}
use Rattle.bsi_aggregates.specs.declared.grouping.GroupError.TheVariants.{BadColumn, TooMany, NoMemory}

-- The entries of the selected rows in a column.
abbrev pub selected_entries : List Bool → ℕ → List SourcedRow → List (Option ℤ)
selected_entries selection by rows = items_where_true selection (column_of rows by)

-- The selected rows that have a given entry in the column.
abbrev pub rows_with_entry : List Bool → ℕ → List SourcedRow → Option ℤ → List Bool
rows_with_entry selection by rows entry = rows_having (column_of rows by) selection entry

-- The entries of groups.
abbrev pub column_keys_of : List ColumnGroup → List (Option ℤ)
column_keys_of groups = map (λ group. group.entry) groups

-- Each entry comes before the ones after it.
abbrev pub EntriesRise : List (Option ℤ) → Type 0
EntriesRise entries = AllPairs (λ earlier later. IsTrue (comes_before earlier later)) entries

-- The groups of the selected rows by one column: an entry, and the total over the rows that have it.
pub record AreColumnGroups (total : Total) (selection : List Bool) (by : ℕ) (rows : List SourcedRow) (groups : List ColumnGroup) : Type 0 where
  -- The groups come in order of entry, each entry once.
  pub rise : EntriesRise (column_keys_of groups)
  -- Each group is of an entry that some selected row has.
  pub had : All (Contains (selected_entries selection by rows)) (column_keys_of groups)
  -- The entry of each selected row has a group.
  pub all : All (Contains (column_keys_of groups)) (selected_entries selection by rows)
  -- The answer of a group is the total over the selected rows with its entry.
  pub answers : All (λ group. IsTotalAt total (rows_with_entry selection by rows group.entry) rows group.answer) groups

-- There are more than `most` different entries.
pub record AreMoreEntries (most : ℕ) (entries : List (Option ℤ)) : Type 0 where
  -- Some of the different entries.
  pub some : List (Option ℤ)
  -- The listed entries are in order, each entry once.
  pub rise : EntriesRise some
  -- Each listed entry is one of the given entries.
  pub had : All (Contains entries) some
  -- More than `most` entries are listed.
  pub many : most < length some

-- Why the selected rows are not grouped: there would be more than `most` groups, or memory was refused.
abbrev pub IsRefusedColumn : List Bool → ℕ → List SourcedRow → ℕ → GroupError → Type 0
IsRefusedColumn selection by rows most (BadColumn c) = ⊥
IsRefusedColumn selection by rows most TooMany = AreMoreEntries most (selected_entries selection by rows)
IsRefusedColumn selection by rows most NoMemory = Unit {0}
