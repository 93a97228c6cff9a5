-- What a contract sees of a logical schema (`Logical`), and which are valid (`IsLogical`).
use Rattle.std.specs.Prelude.{◌≡◌, ℕ, ◌<◌, ◌≤◌, List, [], length, position, map, slice_index_or, All, Option, IsTrue}
use Rattle.std.specs.Option.{option_or}
use Rattle.std.specs.Str.{bytes_eq}
use Rattle.bsi_schema.specs.Columns.{column_at, max_columns, no_columns, position_of, Declared}
use Rattle.bsi_rows.specs.Table.{max_rows}
use Rattle.bsi_rows.specs.Fields.{Field}
use Rattle.bsi_kinds.specs.Kinds.{IsKind}
use Rattle.bsi_kinds.specs.Predicates.{kind_at}
use Rattle.bsi_kinds.specs.declared.kind.Kind.{Kind}
use Rattle.bsi_kinds.specs.declared.kind.Kind.TheVariants.{Decimal}
use Rattle.bsi_logical.specs.Dialects.{is_dialect, usual_dialect}
use Rattle.bsi_logical.specs.declared.dialect.Dialect.{Dialect}

-- A logical schema: what the numbers of the columns mean, and how row files are written.
pub record Logical : Type 0 where
  -- The columns of whole numbers.
  pub schema : Declared
  -- The most rows that an index takes.
  pub limit : ℕ
  -- The title of each column.
  pub titles : List Field
  -- The kind of each column: what its numbers stand for.
  pub kinds : List Kind
  -- The byte between two fields of row files, and the decimal point.
  pub dialect : Dialect
  -- The words that mean a null in row files.
  pub nulls : List Field

-- The names of the columns of a schema.
abbrev pub names_of : Declared → List Field
names_of schema = map (λ column. column.name) schema.columns

-- Plain columns: each is of whole numbers, and its title is its name.
abbrev pub plain_logical : Declared → ℕ → Logical
plain_logical schema limit = record {
  schema = schema;
  limit = limit;
  titles = names_of schema;
  kinds = map (λ column. Decimal 0) schema.columns;
  dialect = usual_dialect;
  nulls = [];
}

-- The schema before any declaration: no column.
abbrev pub nothing_said : Logical
nothing_said = plain_logical no_columns max_rows

-- The name of column c, and its title.
abbrev pub name_of : Logical → ℕ → Field
name_of l c = (column_at l.schema.columns c).name

abbrev pub title_at : List Field → ℕ → Field
title_at titles c = slice_index_or titles c []

abbrev pub title_of : Logical → ℕ → Field
title_of l c = title_at l.titles c

-- The kind of column c; past the last column, that of whole numbers.
abbrev pub kind_of : Logical → ℕ → Kind
kind_of l c = kind_at l.kinds c

-- The column that has the text as its title, or else as its name.
abbrev pub column_called : Logical → Field → Option ℕ
column_called l text =
    option_or (position (λ title. bytes_eq text title) l.titles) (position_of l.schema.columns text)

-- A valid logical schema.
pub record IsLogical (l : Logical) : Type 0 where
  -- There are as many titles as columns.
  pub titled : length l.titles ≡ length l.schema.columns
  -- There are at most 64 titles.
  pub few : length l.titles ≤ max_columns
  -- There are as many kinds as columns.
  pub kinded : length l.kinds ≡ length l.schema.columns
  -- Each kind is one that a column may have.
  pub kinds : All IsKind l.kinds
  -- Titles are distinct.
  pub titles : (a b : ℕ) → a < length l.titles → b < length l.titles → title_of l a ≡ title_of l b → a ≡ b
  -- No title is the name of another column.
  pub names : (a b : ℕ) → a < length l.titles → b < length l.titles → title_of l a ≡ name_of l b → a ≡ b
  -- The delimiter and the decimal point are valid and differ.
  pub dialect : IsTrue (is_dialect l.dialect)
