-- Which lines of answers are in the output: all (`WritesAll`) or, after a fault of any kind, those of some first records of
-- the asks file (`Leaves`); and what holds where the bytes of all files are known (`WhereKnown`).
use Rattle.std.specs.Prelude.{◌≡◌, ◌≤◌, ◌⊎◌, ℕ, List, Some, length, map, take}
use Rattle.std.specs.List.{concat}
use Rattle.std.specs.Io.KnownBytes.{Appends}
use Rattle.csv.specs.declared.parser.State.{State}
use Rattle.bsi_syntax.specs.Bytes.{Bytes, KnownBytes}
use Rattle.bsi_rows.specs.Fields.{Field}
use Rattle.bsi_input.specs.Formats.{max_records}
use Rattle.bsi_input.specs.Texts.{AreAllRecords, AreFirstRecords, AreTooMany}
use Rattle.bsi_input.specs.BufferedOutput.{AppendsPrefix}
use Rattle.bsi_answers.specs.declared.faults.FilesFault.{FilesFault}
use Rattle.bsi_answers.specs.declared.faults.FilesFault.TheVariants.{Read, TooLong, NoMemory, Write}
use Rattle.bsi_answers.specs.declared.faults.Which.TheVariants.{AsksFile}

-- All records of the asks file were answered.
-- `IsOf` relates records to their lines, and `asked` are the bytes of the asks file.
pub record WritesAll (IsOf : List (List Field) → List (List ℕ) → Type 0) (asked : Bytes) (before after : KnownBytes)
    : Type 0 where
  -- The records of the asks file.
  pub records : List (List Field)
  -- The lines to write.
  pub lines : List Bytes
  -- The asks file has these records and no others.
  pub all : AreAllRecords asked records
  -- There are at most 1,000,000 records.
  pub few : length records ≤ max_records
  -- The lines are those that `IsOf` relates to the records.
  pub are : IsOf records lines
  -- The lines were appended to the output, one after the other.
  pub written : Appends before after (concat lines)

-- Which of the lines were written before a fault. Only a fault of the writer cuts a line.
-- Before a fault of the asks file, all were written.
abbrev pub AreWrittenBefore : FilesFault → List (List ℕ) → KnownBytes → KnownBytes → Type 0
AreWrittenBefore Write lines before after = AppendsPrefix before after (concat lines)
AreWrittenBefore (Read AsksFile) lines before after = Appends before after (concat lines)
AreWrittenBefore (TooLong AsksFile) lines before after = Appends before after (concat lines)
AreWrittenBefore fault lines before after = (n : ℕ) × Appends before after (concat (take n lines))

-- Lines of the first records of the asks file were written before a fault.
pub record WritesFirst (IsOf : List (List Field) → List (List ℕ) → Type 0) (asked : Bytes) (fault : FilesFault)
    (before after : KnownBytes) : Type 0 where
  -- The first records of the asks file.
  pub records : List (List Field)
  -- The lines of these records.
  pub lines : List Bytes
  -- The state of the parser after the records.
  pub state : State
  -- The bytes after the records.
  pub rest : List ℕ
  -- The asks file begins with the records, and goes on with the rest.
  pub first : AreFirstRecords asked records state rest
  -- There are at most 1,000,000 records.
  pub few : length records ≤ max_records
  -- If the asks file is too long, the records are 1,000,000, and one more follows.
  pub too_long : fault ≡ TooLong AsksFile → AreTooMany records state rest
  -- The lines are those that `IsOf` relates to the records.
  pub are : IsOf records lines
  -- The lines were written, as far as the fault lets them.
  pub out : AreWrittenBefore fault lines before after

-- What a run that ends by a fault leaves in its output. Nothing is written before the questions are answered.
abbrev pub Leaves : (List (List Field) → List (List ℕ) → Type 0) → List ℕ → FilesFault → KnownBytes
    → KnownBytes → Type 0
Leaves IsOf asked (Read AsksFile) before after = WritesFirst IsOf asked (Read AsksFile) before after
Leaves IsOf asked (TooLong AsksFile) before after = WritesFirst IsOf asked (TooLong AsksFile) before after
Leaves IsOf asked Write before after = WritesFirst IsOf asked Write before after
Leaves IsOf asked NoMemory before after = (after ≡ before) ⊎ WritesFirst IsOf asked NoMemory before after
Leaves IsOf asked fault before after = after ≡ before

-- `Is` holds of the bytes of the schema file and the row files, if all are known.
abbrev pub WhereFilesKnown : KnownBytes → List KnownBytes → (List ℕ → List (List ℕ) → Type 0) → Type 0
WhereFilesKnown schema files Is =
    (declared : List ℕ) → (texts : List Bytes) → schema ≡ Some declared → files ≡ map Some texts → Is declared texts

-- `Is` holds of the bytes of the schema file, the row files and the asks file, if all are known.
abbrev pub WhereKnown : KnownBytes → List KnownBytes → KnownBytes
    → (List ℕ → List (List ℕ) → List ℕ → Type 0) → Type 0
WhereKnown schema files asks Is =
    (declared : List ℕ) → (texts : List Bytes) → (asked : Bytes)
    → schema ≡ Some declared → files ≡ map Some texts → asks ≡ Some asked → Is declared texts asked
