-- The lines that describe a saved index: its schema, feeders, rows, and the bytes of each column (`IsShownText`); and that of its rows alone.
use Rattle.std.specs.Prelude.{◌≡◌, ℕ, List, [], ◌++◌, ◌*◌, codes, decimal, length}
use Rattle.std.specs.List.{flat_map}
use Rattle.bsi_bits.specs.BitList.{word_count}
use Rattle.bsi_input.specs.SchemaTexts.{IsSchemaText}
use Rattle.bsi_logical.specs.LogicalTexts.{IsLogicalText}
use Rattle.bsi_logical.specs.declared.table_schema.TableSchema.{TableSchema}
use Rattle.bsi_logical.specs.declared.table_schema.TableSchema.TheVariants.{Logical, Plain}
use Rattle.bsi_rows.specs.Table.{Table}
use Rattle.bsi_schema.specs.Columns.{NamedColumn}
use Rattle.bsi_table.specs.Bitmaps.{bitmap_count}
use Rattle.bsi_syntax.specs.Bytes.{Bytes}

-- The line of a word and a number.
abbrev pub number_line : List ℕ → ℕ → List ℕ
number_line word number = word ++ codes " " ++ decimal number ++ codes "\n"

-- The line of the word `bytes`, a name and a number.
abbrev pub bytes_line : List ℕ → ℕ → List ℕ
bytes_line name number = codes "bytes " ++ (name ++ number_line [] number)

-- The bytes of the bitmaps of a column with `rows` rows, each of whole words.
abbrev pub bitmap_bytes : ℕ → NamedColumn → ℕ
bitmap_bytes rows column = 8 * word_count rows * bitmap_count column.form

-- The line of each column with its bytes.
abbrev pub size_lines : ℕ → List NamedColumn → List ℕ
size_lines rows columns = flat_map (λ column. bytes_line column.name (bitmap_bytes rows column)) columns

-- The records say the schema of a table: its columns and limit, or its columns by kinds.
abbrev pub AreRecordsOf : TableSchema → Table → List ℕ → Type 0
AreRecordsOf (Plain schema) t records = IsSchemaText records t.schema t.limit
AreRecordsOf (Logical logical) t records = IsLogicalText records logical

-- The description of a table: the records that say its schema, the numbers of feeders and rows, and the bytes of each
-- column.
pub record IsShownText (schema : TableSchema) (t : Table) (text : Bytes) : Type 0 where
  pub records : List ℕ
  pub say : AreRecordsOf schema t records
  pub text_is : text ≡ records ++ (number_line (codes "feeders") t.feeders
      ++ (number_line (codes "rows") (length t.rows) ++ size_lines (length t.rows) t.schema.columns))

-- The line of how many rows a table has.
abbrev pub IsRowCount : TableSchema → Table → Bytes → Type 0
IsRowCount schema t text = text ≡ number_line (codes "rows") (length t.rows)
