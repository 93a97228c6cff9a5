-- The words that a schema is encoded as (`encoded_schema`).
use Rattle.std.specs.Prelude.{ℕ, if◌then◌else◌, List, [], ◌∷◌, ◌++◌, length}
use Rattle.std.specs.Int.{w64, cast_unsigned}
use Rattle.std.specs.Int.RustNames.{FitsSigned}
use Rattle.std.specs.List.{flat_map}
use Rattle.bsi_schema.specs.Columns.{form_of, named_column, Declared, NamedColumn}
use Rattle.bsi_schema.specs.declared.form.Form.{Form}
use Rattle.bsi_schema.specs.declared.form.Form.TheVariants.{Slices, Equality, Range}
use Rattle.bsi_segments.specs.Bytes.{text_words, AreBytes}
use Rattle.bsi_segments.specs.declared.columns.ReadColumn.{ReadColumn}

-- The words of a form: its kind, and the number of slices; or its kind, the number of bases, and the bases, the least
-- significant first.
abbrev pub form_words : Form → List ℕ
form_words (Slices width) = 0 ∷ width ∷ []
form_words (Equality bases) = 1 ∷ length bases ∷ bases
form_words (Range bases) = 2 ∷ length bases ∷ bases

-- The words of a column: its name, its form, and its offset in two's complement.
abbrev pub column_words : NamedColumn → List ℕ
column_words column = text_words column.name ++ (form_words column.form ++ cast_unsigned w64 column.offset ∷ [])

-- A column that can be encoded: its name is a list of bytes, and its offset a signed number of 64 bits.
pub record FitsWords (column : NamedColumn) : Type 0 where
  pub name : AreBytes column.name
  pub offset : FitsSigned w64 column.offset

-- The words of a schema: the number of columns, 1 if a column was declared with an offset, and the columns.
abbrev pub encoded_schema : Declared → List ℕ
encoded_schema schema = length schema.columns ∷ (if schema.signed then 1 else 0) ∷ flat_map column_words schema.columns

-- A decoded column, as a schema has it.
abbrev pub decoded_column : ReadColumn → NamedColumn
decoded_column column = named_column column.name.items (form_of column.spec) column.offset
