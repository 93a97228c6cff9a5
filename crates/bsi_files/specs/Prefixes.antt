-- A run that a gate may stop: it loads first good rows of each file, and answers over these (`IsPrefixRun`).
use Rattle.std.specs.Prelude.{◌≡◌, ◌≤◌, ⊤, ℕ, suc, true, List, [], ◌∷◌, ◌++◌, length}
use Rattle.csv.specs.declared.parser.State.{State}
use Rattle.bsi_schema.specs.Columns.{Declared}
use Rattle.bsi_syntax.specs.Bytes.{Bytes}
use Rattle.bsi_rows.specs.Fields.{Field}
use Rattle.bsi_rows.specs.Rows.{Entries, SourcedRow}
use Rattle.bsi_rows.specs.Runs.{rows_from}
use Rattle.bsi_input.specs.Formats.{bad_count, good_rows, Format}
use Rattle.bsi_input.specs.RowFiles.{plain_format}
use Rattle.bsi_input.specs.SchemaTexts.{IsSchemaText}
use Rattle.bsi_input.specs.Texts.{AreFirstRecordsBy}
use Rattle.bsi_answers.specs.RowFiles.{FedCounts}
use Rattle.bsi_answers.specs.Runs.{AreLines}

-- The first records of a row file give these rows first, and `bad` bad records.
pub record HasPrefix (format : Format) (bytes : Bytes) (rows : List Entries) (bad : ℕ) : Type 0 where
  -- The header of the file.
  pub header : List Field
  -- The first records after the header.
  pub records : List (List Field)
  -- The state of the parser after these records.
  pub state : State
  -- The bytes after these records.
  pub rest : List ℕ
  -- The last good rows of these records, which were not sent.
  pub unsent : List Entries
  -- The bytes begin with the header and these records.
  pub first : AreFirstRecordsBy format.config bytes (header ∷ records) state rest
  -- The header is one of the format.
  pub header_is : format.is_header header ≡ true
  -- The good rows of the records are the given rows, followed by those that were not sent.
  pub rows_are : good_rows format header records ≡ rows ++ unsent
  -- `bad` is the number of bad records among these records.
  pub bad_is : bad ≡ bad_count format header records

-- Each feeder from n on has as many rows as it accepted, and the good rows of its file begin with them.
abbrev pub ArePrefixes : Format → List SourcedRow → ℕ → List (List ℕ) → List FedCounts → Type 0
ArePrefixes format rows n [] [] = ⊤
ArePrefixes format rows n (bytes ∷ texts) (counts ∷ others) =
    (length (rows_from n rows) ≡ counts.accepted) × HasPrefix format bytes (rows_from n rows) counts.bad
    × ArePrefixes format rows (suc n) texts others
ArePrefixes format rows n texts counts = ⊥

-- The rows are first good rows of each file and no others, within the limit.
pub record HasLoadedPrefixes (format : Format) (limit : ℕ) (texts : List Bytes) (rows : List SourcedRow)
    (counts : List FedCounts) : Type 0 where
  pub each : ArePrefixes format rows 0 texts counts
  pub none : (f : ℕ) → length texts ≤ f → rows_from f rows ≡ []
  pub within : length rows ≤ limit

-- The lines of a run whose feeders a gate may stop, over first rows of each file.
pub record IsPrefixRun (declared : List ℕ) (texts : List Bytes) (records : List (List Field)) (lines : List Bytes)
    : Type 0 where
  -- The declared schema.
  pub schema : Declared
  -- The declared limit.
  pub limit : ℕ
  -- The loaded rows.
  pub rows : List SourcedRow
  -- The numbers of accepted rows and of bad records of each file.
  pub counts : List FedCounts
  -- The schema text declares this schema and this limit.
  pub schema_is : IsSchemaText declared schema limit
  -- The rows are first good rows of each file and no others, within the limit.
  pub loaded : HasLoadedPrefixes (plain_format schema) limit texts rows counts
  -- The lines are one for the counts of each file, then an answer to each record of the asks file.
  pub lines_are : AreLines schema rows counts records lines
