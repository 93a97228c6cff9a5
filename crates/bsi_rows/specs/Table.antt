-- A table (`Table`): the rows of a schema that came from feeders, and the most that there may be.
use Rattle.std.specs.Prelude.{◌≡◌, ℕ, ◌^◌, ◌<◌, List, [], ◌∷◌, ◌++◌, All, map, ℤ, IsTrue}
use Rattle.bsi_schema.specs.declared.form.Form.{Form}
use Rattle.bsi_schema.specs.Columns.{fits, Declared, NamedColumn}
use Rattle.bsi_rows.specs.Rows.{row_entries, row_feeder, Entries, SourcedRow}

-- the most feeders of one index
abbrev pub max_feeders : ℕ
max_feeders = 64

-- the most rows of an index
abbrev pub max_rows : ℕ
max_rows = 2 ^ 32

-- one more than the greatest number of 32 bits
abbrev pub end_of_u32 : ℕ
end_of_u32 = 2 ^ 32

-- what a contract sees of an index
pub record Table : Type 0 where
  -- the columns of the rows
  pub schema : Declared
  -- the number of feeders
  pub feeders : ℕ
  -- the most rows that the index takes
  pub limit : ℕ
  -- the rows in order, each with its feeder
  pub rows : List SourcedRow

abbrev pub table : Declared → ℕ → ℕ → List SourcedRow → Table
table schema feeders limit rows = record { schema = schema; feeders = feeders; limit = limit; rows = rows }

abbrev pub no_rows : Declared → ℕ → ℕ → Table
no_rows schema feeders limit = table schema feeders limit []

-- the table with more rows, the last, in their order
abbrev pub with_rows : Table → List SourcedRow → Table
with_rows table rows = record table { rows = table.rows ++ rows }

-- the table with one more row, the last
abbrev pub with_row : Table → ℕ → Entries → Table
with_row table feeder row = with_rows table ((feeder, row) ∷ [])

-- each row fits the columns
abbrev pub AreFitting : List NamedColumn → List SourcedRow → Type 0
AreFitting columns rows = All (λ row. IsTrue (fits columns (row_entries row))) rows

-- each row came from a feeder whose number is below `feeders`
abbrev pub AreFrom : ℕ → List SourcedRow → Type 0
AreFrom feeders rows = All (λ row. row_feeder row < feeders) rows

-- the encoding of a column: its form and its offset
abbrev pub encoded_as : NamedColumn → Form × ℤ
encoded_as column = (column.form, column.offset)

-- the columns of two schemas are encoded alike
abbrev pub AreEncodedAlike : Declared → Declared → Type 0
AreEncodedAlike first second = map encoded_as first.columns ≡ map encoded_as second.columns
