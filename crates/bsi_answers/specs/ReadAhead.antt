-- Records that are read ahead (`ReadsAhead`), and the lines that are written of them (`WritesLines`).
use Rattle.std.specs.Prelude.{◌≡◌, ◌<◌, ◌≤◌, ◌⊎◌, ℕ, ◌+◌, List, [], ◌∷◌, ◌++◌, Bool, true, false, None, length}
use Rattle.std.specs.Io.KnownBytes.{Appends}
use Rattle.std.specs.List.{concat, AllZip}
use Rattle.csv.specs.declared.reader.Reader.{Reader}
use Rattle.bsi_answers.specs.Writing.{AreWrittenBefore}
use Rattle.bsi_answers.specs.declared.faults.FilesFault.{FilesFault}
use Rattle.bsi_answers.specs.declared.faults.FilesFault.TheVariants.{NoMemory, TooLong, Write}
use Rattle.bsi_answers.specs.declared.faults.Which.TheVariants.{AsksFile}
use Rattle.bsi_input.specs.Formats.{max_records}
use Rattle.bsi_input.specs.RecordSources.{RecordSource}
use Rattle.bsi_input.specs.Sources.{HasNext, HasReadRecords, IsOver}
use Rattle.bsi_rows.specs.Fields.{Field}
use Rattle.bsi_syntax.specs.Bytes.{Bytes, KnownBytes}

-- ---- records

-- A reader gave these records, one after the other.
abbrev pub GivesRecords : {R : Type 0} → (R → KnownBytes) → Reader R → List (List Field) → Reader R → Type 0
GivesRecords rem old [] at = old ≡ at
GivesRecords {R} rem old (fields ∷ records) at =
    (next : Reader R) × HasReadRecords rem old next (fields ∷ []) × GivesRecords rem next records at

-- A source gave these records. After them its reader is `at`, with `read_so_far` records read.
pub record GaveRecords {R : Type 0} (rem : R → KnownBytes) (old : RecordSource R) (records : List (List Field)) (at : Reader R)
    (read_so_far : ℕ) : Type 0 where
  pub gives : GivesRecords rem old.input records at
  pub counted : read_so_far ≡ old.read_so_far + length records
  pub few : read_so_far ≤ max_records

-- The next record is good to read.
pub record ReadsMore {R : Type 0} (rem : R → KnownBytes) (old new : RecordSource R) (fields : List Field) : Type 0 where
  -- The reader gave this one record.
  pub read : HasReadRecords rem old.input new.input (fields ∷ [])
  -- The source counts one more record as read.
  pub counted : new.read_so_far ≡ old.read_so_far + 1
  -- At most 1,000,000 records were read.
  pub few : new.read_so_far ≤ max_records
  -- The source may have more records.
  pub going : new.end ≡ None

-- The records read ahead, after one more was read (true), or none was left (false).
abbrev pub ReadsOne : {R : Type 0} → (R → KnownBytes) → RecordSource R → RecordSource R → List (List Field) → List (List Field)
    → Bool → Type 0
ReadsOne rem old new before after true =
    (fields : List Field) × (after ≡ before ++ fields ∷ []) × ReadsMore rem old new fields
ReadsOne rem old new before after false = (after ≡ before) × IsOver rem old.input

-- The records read ahead, after which there may be more (true; it has one at least), or are none (false).
abbrev pub ReadsAhead : {R : Type 0} → (R → KnownBytes) → RecordSource R → RecordSource R → List (List Field) → Bool → Type 0
ReadsAhead rem old new records true =
    GaveRecords rem old records new.input new.read_so_far × (0 < length records) × (new.end ≡ None)
ReadsAhead {R} rem old new records false =
    (at : Reader R) × (read_so_far : ℕ) × GaveRecords rem old records at read_so_far × IsOver rem at

-- A fault was met after these records.
pub record FailsAhead {R : Type 0} (rem : R → KnownBytes) (old : RecordSource R) (records : List (List Field))
    (fault : FilesFault) : Type 0 where
  -- The reader after the records.
  pub at : Reader R
  -- The number of records read before the fault.
  pub read_so_far : ℕ
  -- The source gave the records before the fault.
  pub gave : GaveRecords rem old records at read_so_far
  -- If the text is too long, 1,000,000 records were read, and there is one more.
  pub too_long : fault ≡ TooLong AsksFile → (read_so_far ≡ max_records) × HasNext rem at

-- ---- lines

-- The lines of all these records were written to the output.
pub record WritesLines (Is : List Field → Bytes → Type 0) (records : List (List Field)) (before after : KnownBytes) : Type 0 where
  pub lines : List Bytes
  pub each : AllZip Is records lines
  pub written : Appends before after (concat lines)

-- Lines of the first records were written before a fault.
pub record WritesFirstLines (Is : List Field → Bytes → Type 0) (records : List (List Field)) (before after : KnownBytes)
    (fault : FilesFault) : Type 0 where
  -- The first records, and the others.
  pub first : List (List Field)
  pub rest : List (List Field)
  pub are : records ≡ first ++ rest
  -- The lines of the first records.
  pub lines : List Bytes
  pub each : AllZip Is first lines
  -- The first lines were written, of which only a writer that failed cuts one.
  pub out : AreWrittenBefore fault lines before after
  -- Memory was refused, or the writer failed.
  pub late : (fault ≡ NoMemory) ⊎ (fault ≡ Write)
