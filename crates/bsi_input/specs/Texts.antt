-- The records of a text (`AreAllRecords`), and the lines that a script run writes for them, all or the first.
use Rattle.std.specs.Prelude.{◌≡◌, ◌≤◌, ℕ, List, [], Some, IfSome, IsSome, take, length}
use Rattle.std.specs.Io.KnownBytes.{Appends}
use Rattle.std.specs.List.{concat}
use Rattle.csv.specs.Machine.{next_record}
use Rattle.csv.specs.Reading.{AreRecords, Reached, default_config, strip_bom}
use Rattle.csv.specs.declared.parser.Config.{Config}
use Rattle.csv.specs.declared.parser.State.{State}
use Rattle.csv.specs.declared.parser.State.TheVariants as st
use Rattle.bsi_syntax.specs.Bytes.{Bytes, KnownBytes}
use Rattle.bsi_rows.specs.Fields.{Field}
use Rattle.bsi_input.specs.Scripts.{IsScriptRun}
use Rattle.bsi_input.specs.Formats.{max_records}
use Rattle.bsi_input.specs.BufferedOutput.{HoldsAfterFlush}

-- All records of a text that are written so, after any byte order mark.
abbrev pub AreRecordsBy : Config → List ℕ → List (List Field) → Type 0
AreRecordsBy config bytes records = AreRecords config st.StartRecord (strip_bom bytes) records

-- All records of a plain text.
abbrev pub AreAllRecords : List ℕ → List (List Field) → Type 0
AreAllRecords bytes records = AreRecordsBy default_config bytes records

-- The first records of a text that are written so, the state of the parser after them, and the bytes that are left.
abbrev pub AreFirstRecordsBy : Config → List ℕ → List (List Field) → State → List ℕ → Type 0
AreFirstRecordsBy config bytes records state rest = Reached config st.StartRecord (strip_bom bytes) records state rest

-- The same of a plain text.
abbrev pub AreFirstRecords : List ℕ → List (List Field) → State → List ℕ → Type 0
AreFirstRecords bytes records state rest = AreFirstRecordsBy default_config bytes records state rest

-- There are 1,000,000 records, and the text has one more.
abbrev pub AreTooMany : List (List Field) → State → List ℕ → Type 0
AreTooMany records state rest = (length records ≡ max_records) × IsSome (next_record default_config state [] [] rest)

-- The lines of a script run of the records were appended to the output.
abbrev pub WritesLines : KnownBytes → KnownBytes → List (List Field) → Type 0
WritesLines before after records =
    (lines : List Bytes) × IsScriptRun records lines × Appends before after (concat lines)

-- A prefix of the lines of a script run of the records was appended to the output.
abbrev pub WritesPrefix : KnownBytes → KnownBytes → List (List Field) → Type 0
WritesPrefix before after records =
    (lines : List Bytes) × (n : ℕ) × IsScriptRun records lines × Appends before after (take n (concat lines))

-- The text has at most 1,000,000 records, and the lines of all were written.
pub record IsAnswered (bytes : Bytes) (before after : KnownBytes) : Type 0 where
  -- The records of the text.
  pub records : List (List Field)
  -- The bytes have these records, and no others.
  pub all : AreAllRecords bytes records
  -- There are at most 1,000,000 records.
  pub few : length records ≤ max_records
  -- The lines of the records were written.
  pub written : WritesLines before after records

-- The text has more than 1,000,000 records, and the lines of the first 1,000,000 were written.
pub record IsTooLong (bytes : Bytes) (before after : KnownBytes) : Type 0 where
  -- The first 1,000,000 records of the text.
  pub records : List (List Field)
  -- The state of the parser after these records.
  pub state : State
  -- The bytes after these records.
  pub rest : List ℕ
  -- The bytes begin with these records.
  pub first : AreFirstRecords bytes records state rest
  -- There are 1,000,000 of these records.
  pub many : length records ≡ max_records
  -- One more record follows.
  pub more : IsSome (next_record default_config state [] [] rest)
  -- The lines of these records were written.
  pub written : WritesLines before after records

-- Whole lines were written: those of the first records of the text.
pub record WroteWholeLines (bytes : Bytes) (before after : KnownBytes) : Type 0 where
  -- The first records of the text.
  pub records : List (List Field)
  -- The state of the parser after these records.
  pub state : State
  -- The bytes after these records.
  pub rest : List ℕ
  -- The bytes begin with these records.
  pub first : AreFirstRecords bytes records state rest
  -- The lines of these records were written.
  pub written : WritesLines before after records

-- A prefix of the lines of all records of the text was written.
pub record WrotePrefix (bytes : Bytes) (before after : KnownBytes) : Type 0 where
  pub records : List (List Field)
  pub all : AreAllRecords bytes records
  pub written : WritesPrefix before after records

-- P holds of the bytes of the input, if they are known, and of the output before and after.
abbrev pub IfBytesKnown : KnownBytes → (List ℕ → KnownBytes → KnownBytes → Type 0)
    → KnownBytes → KnownBytes → Type 0
IfBytesKnown source P before after = IfSome source (λ bytes. P bytes before after)

-- P holds of the text that a reader is about to read, if it is known.
abbrev pub ForText : KnownBytes → (List ℕ → Type 0) → Type 0
ForText source P = (bytes : Bytes) → source ≡ Some (strip_bom bytes) → P bytes

-- P holds of the input text (without byte order mark), the output before, and the output after the buffered bytes are
-- written.
abbrev pub ForTextAfterFlush : KnownBytes → (List ℕ → KnownBytes → KnownBytes → Type 0)
    → KnownBytes → KnownBytes → List ℕ → Type 0
ForTextAfterFlush source P before now waiting = ForText source (λ bytes. HoldsAfterFlush now waiting (P bytes before))
