-- The line by which `bsi ask` answers a record over an index (`IsAnswerLine`), and the call for it.
use Rattle.std.specs.Prelude.{◌≡◌, ℕ, ◌<◌, ◌≤◌, List, length, take, Option, None, Some, Ok, Err}
use Rattle.bsi_answers.specs.AskLines.{IsAskLineBy}
use Rattle.bsi_logical.specs.Logical as logical
use Rattle.bsi_logical.specs.TableSchemas.{texts_of, words_of}
use Rattle.bsi_logical.specs.declared.table_schema.TableSchema.{TableSchema}
use Rattle.bsi_logical.specs.declared.table_schema.TableSchema.TheVariants.{Logical, Plain}
use Rattle.bsi_rows.specs.Fields.{Field}
use Rattle.bsi_schema.specs.Columns.{Declared}
use Rattle.bsi_syntax.specs.Bytes.{Bytes}
use Rattle.bsi_syntax.specs.declared.grammar.Grammar.TheVariants.{Index}
use Rattle.bsi_ffi.specs.Calls.{WhereOpen}
use Rattle.bsi_ffi.specs.OpenIndex.{OpenIndex}
use Rattle.bsi_ffi.specs.Statuses.{Ending}
use Rattle.bsi_ffi.specs.declared.refusal.Refusal.TheVariants.{BufferTooSmall, NoMemory}

-- The schema by which an index is asked: of whole numbers, or the one that its text of kinds says.
abbrev pub schema_by : Declared → Option logical.Logical → TableSchema
schema_by columns None = Plain columns
schema_by columns (Some said) = Logical said

-- A line that `bsi ask` may write for a record over a saved index with these rows and this text of kinds.
abbrev pub IsAnswerLine : OpenIndex → List Field → Bytes → Type 0
IsAnswerLine opened fields line =
    IsAskLineBy Index (words_of (schema_by opened.table.schema opened.logical)) (texts_of (schema_by opened.table.schema opened.logical))
    opened.table.schema opened.table.rows fields line

-- The first bytes are such a line.
abbrev pub IsLineReplied : OpenIndex → List Field → List ℕ → ℕ → Ending → Type 0
IsLineReplied opened fields bytes size (Ok done) = IsAnswerLine opened fields (take size bytes) × (size ≤ length bytes)
IsLineReplied opened fields bytes size (Err BufferTooSmall) =
    (line : Bytes) × IsAnswerLine opened fields line × (size ≡ length line) × (length bytes < size)
IsLineReplied opened fields bytes size (Err NoMemory) = Unit {0}
IsLineReplied opened fields bytes size (Err why) = ⊥

abbrev pub IsAnsweringByLine : Option OpenIndex → List Field → List ℕ → ℕ → Ending → Type 0
IsAnsweringByLine index fields bytes size ending =
    WhereOpen index (λ opened ending. IsLineReplied opened fields bytes size ending) ending
