-- How a format judges the fields of a record (`Judge`), and which texts tell why a record is bad (`IsReason`).
use Rattle.std.specs.Prelude.{◌≡◌, ◌≢◌, ⊤, ◌⊎◌, ℕ, Bool, if◌then◌else◌, List, [], ◌∷◌, ◌++◌, length, position, is_some, codes, decimal, Option, Some, None, option_and_then, MatchOption}
use Rattle.std.specs.Option.{option_or}
use Rattle.std.specs.Str.{bytes_eq}
use Rattle.bsi_rows.specs.Fields.{Field}
use Rattle.bsi_schema.specs.Columns.{column_at, position_of, Declared}
use Rattle.bsi_syntax.specs.Numbers.{value_in}
use Rattle.bsi_input.specs.Formats.{Format}
use Rattle.bsi_logical.specs.Logical.{title_of, Logical}
use Rattle.bsi_logical.specs.LogicalRows.{accepted_entry, entry_of}
use Rattle.bsi_logical.specs.declared.table_schema.TableSchema.{TableSchema}
use Rattle.bsi_logical.specs.declared.table_schema.TableSchema.TheVariants.{Logical as LogicalTable, Plain}

-- How a format judges the fields of a record.
pub record Judge : Type 0 where
  -- The column whose fields are under a field of a header, if any.
  pub column : Field → Option ℕ
  -- The column accepts the field.
  pub accepts : ℕ → Field → Bool
  -- What a header calls the column.
  pub title : ℕ → Field

-- Whole numbers: a column is called by its name, and accepts numbers in its range, and nulls.
abbrev pub plain_judge : Declared → Judge
plain_judge schema = record {
  column = position_of schema.columns;
  accepts = λ c field. is_some (accepted_entry (column_at schema.columns c) (value_in schema.signed field));
  title = λ c. (column_at schema.columns c).name;
}

-- Kinds: a column is called by its title, and accepts values of its kind in its range, and nulls.
abbrev pub logical_judge : Logical → Judge
logical_judge l = record {
  column = λ name. position (λ title. bytes_eq title name) l.titles;
  accepts = λ c field. is_some (accepted_entry (column_at l.schema.columns c) (entry_of l c field));
  title = title_of l;
}

-- The schema of a table: whole numbers, or kinds.
abbrev pub table_judge : TableSchema → Judge
table_judge (Plain schema) = plain_judge schema
table_judge (LogicalTable logical) = logical_judge logical

-- ---- the first field that is not accepted

-- The column of a header's field, if it does not accept the record's field.
abbrev pub refusing : Judge → Field → Field → Option ℕ
refusing judge name field = option_and_then (λ c. if judge.accepts c field then None else Some c) (judge.column name)

-- The first column, in the order of the header, that does not accept its field.
abbrev pub first_refusing : Judge → List Field → List Field → Option ℕ
first_refusing judge [] fields = None
first_refusing judge (name ∷ header) [] = None
first_refusing judge (name ∷ header) (field ∷ fields) =
    option_or (refusing judge name field) (first_refusing judge header fields)

-- ---- texts

-- The text begins with a prefix.
abbrev pub Begins : List ℕ → List ℕ → Type 0
Begins prefix text = (rest : List ℕ) × (text ≡ prefix ++ rest)

-- The text is about column c: the title or the name of the column, a colon, and what is wrong.
pub record IsAbout (format : Format) (judge : Judge) (c : ℕ) (text : List ℕ) : Type 0 where
  -- What the text calls the column.
  pub called : List ℕ
  -- It is the title or the name.
  pub is : (called ≡ judge.title c) ⊎ (called ≡ (column_at format.schema.columns c).name)
  -- What is wrong.
  pub why : List ℕ
  pub said : text ≡ called ++ (codes ": " ++ why)

-- What is told of a field: if a column does not accept it, a text about that column, and else nothing.
abbrev pub Tells : Format → Judge → Option ℕ → Option (List ℕ) → Type 0
Tells format judge None None = ⊤
Tells format judge None (Some text) = ⊥
Tells format judge (Some c) None = ⊥
Tells format judge (Some c) (Some text) = IsAbout format judge c text

-- The text tells why a record is bad.
pub record IsReason (format : Format) (judge : Judge) (header fields : List Field) (text : List ℕ) : Type 0 where
  -- Of a record that is longer or shorter than the header, the text tells how many fields it has.
  pub other_length : length fields ≢ length header → Begins (codes "has " ++ decimal (length fields)) text
  -- Of another one, the text is about the first column, in the order of the header, that does not accept its field.
  pub column : length fields ≡ length header →
      MatchOption (first_refusing judge header fields) (Begins (codes "is no row") text) (λ c. IsAbout format judge c text)
