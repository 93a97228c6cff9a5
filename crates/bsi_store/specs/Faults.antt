-- Why a command over a saved index ends early, and the line of each such fault (`store_fault_line`).
use Rattle.std.specs.Prelude.{◌≡◌, ◌⊎◌, ℕ, List, ◌++◌, Option, Some, codes, decimal, length}
use Rattle.std.specs.Borrow.{Bor}
use Rattle.bsi_answers.specs.FaultTexts.{fault_text}
use Rattle.bsi_answers.specs.declared.faults.FilesFault.TheVariants.{NoMemory}
use Rattle.bsi_storage.specs.declared.fault.OpenFault.{OpenFault}
use Rattle.bsi_storage.specs.declared.fault.OpenFault.TheVariants as opening
use Rattle.bsi_storage.specs.Faults.{IsFirstSegmentFault, IsOpened}
use Rattle.bsi_rows.specs.Table.{Table}
use Rattle.bsi_store.specs.Kinds.{SaysNoSchema}
use Rattle.bsi_store.specs.declared.fault.FileFault.{FileFault}
use Rattle.bsi_store.specs.declared.fault.FileFault.TheVariants.{BadKinds, CutShort, Damaged, InUse, LongKinds, NotAnIndex, OtherVersion, Read, TooManyFiles}
use Rattle.bsi_store.specs.declared.fault.StoreFault.{StoreFault}
use Rattle.bsi_store.specs.declared.fault.WriteReason.{WriteReason}
use Rattle.bsi_store.specs.declared.fault.WriteReason.TheVariants as reason
use Rattle.bsi_store.specs.declared.fault.StoreFault.TheVariants.{BadRecords, CannotOpen, CannotWrite, Unusable, Run}
use Rattle.bsi_syntax.specs.Bytes.{Bytes, KnownBytes}

-- The text that says what is wrong with a file.
abbrev pub file_fault_text : FileFault → List ℕ
file_fault_text NotAnIndex = codes "not a kept index"
file_fault_text OtherVersion = codes "of another version"
file_fault_text (CutShort rows) = codes "cut short after " ++ decimal rows ++ codes " rows"
file_fault_text (Damaged rows) = codes "damaged after " ++ decimal rows ++ codes " rows"
file_fault_text Read = codes "read failed"
file_fault_text InUse = codes "in use"
file_fault_text (TooManyFiles feeders) = codes "more than " ++ decimal feeders ++ codes " files"
file_fault_text BadKinds = codes "of kinds that are not known"
file_fault_text LongKinds = codes "texts past 64 MiB"

-- What follows the path of a file that can't be written.
abbrev pub write_fault_reason : WriteReason → List ℕ
write_fault_reason reason.NotFound = codes ": no such file or folder"
write_fault_reason reason.PermissionDenied = codes ": permission denied"
write_fault_reason reason.NotAFolder = codes ": not a folder"
write_fault_reason reason.NotAFile = codes ": not a regular file"
write_fault_reason reason.ReadOnly = codes ": read-only file system"
write_fault_reason reason.NoSpace = codes ": no space left"
write_fault_reason reason.Unnamed = codes ""

-- The line that says how many records of row files are bad.
abbrev pub bad_records_line : ℕ → List ℕ
bad_records_line bad = codes "bsi: bad records: " ++ decimal bad ++ codes "; bsi check says which\n"

-- The line of a fault.
abbrev pub store_fault_line : StoreFault → List ℕ
store_fault_line (CannotOpen path) = codes "bsi: cannot open " ++ path.now ++ codes "\n"
store_fault_line (CannotWrite path why) = codes "bsi: cannot write " ++ path.now ++ (write_fault_reason why ++ codes "\n")
store_fault_line (Unusable path fault) = codes "bsi: " ++ path.now ++ (codes ": " ++ (file_fault_text fault ++ codes "\n"))
store_fault_line (BadRecords bad) = bad_records_line bad
store_fault_line (Run fault) = fault_text fault ++ codes "\n"

-- If the fault names a path, the path satisfies `Is`.
abbrev pub NamesPath : (Bor (List ℕ) → Type 0) → StoreFault → Type 0
NamesPath Is (CannotOpen path) = Is path
NamesPath Is (CannotWrite path why) = Is path
NamesPath Is (Unusable path fault) = Is path
NamesPath Is (BadRecords bad) = Unit {0}
NamesPath Is (Run fault) = Unit {0}

-- The fault of a file after `rows` rows that were opened.
abbrev pub cut_off : Bor (List ℕ) → OpenFault → ℕ → StoreFault
cut_off path opening.NotAnIndex rows = Unusable path (Damaged rows)
cut_off path opening.OtherVersion rows = Unusable path OtherVersion
cut_off path opening.CutShort rows = Unusable path (CutShort rows)
cut_off path opening.Damaged rows = Unusable path (Damaged rows)
cut_off path opening.Read rows = Unusable path Read
cut_off path opening.NoMemory rows = Run NoMemory

-- The fault of a file from which no index could be opened.
abbrev pub unopened : Bor (List ℕ) → OpenFault → StoreFault
unopened path opening.NotAnIndex = Unusable path NotAnIndex
unopened path fault = cut_off path fault 0

-- The fault of a file of which no segment could be read.
abbrev pub IsFirstFileFault : Bor (List ℕ) → KnownBytes → StoreFault → Type 0
IsFirstFileFault path bytes reported =
    (fault : OpenFault) × (after : KnownBytes) × IsFirstSegmentFault bytes after fault × (reported ≡ unopened path fault)

-- The fault of a file whose text of kinds says no schema of its table.
pub record HasBadKinds (path : Bor (List ℕ)) (bytes : KnownBytes) (reported : StoreFault) : Type 0 where
  -- What is left of the file after it was read.
  pub after : KnownBytes
  -- What was read of the file.
  pub table : Table
  pub notes : Bytes
  pub kinds : Bytes
  pub size : ℕ
  pub fault : Option OpenFault
  pub opened : IsOpened bytes after table notes kinds size fault
  -- The text of kinds says no schema of the table.
  pub bad : SaysNoSchema kinds table
  pub reported_is : reported ≡ Unusable path BadKinds

-- The fault of a file: of its first segment, after the rows that were opened, or of its text of kinds.
abbrev pub IsFileFault : Bor (List ℕ) → KnownBytes → StoreFault → Type 0
IsFileFault path bytes reported =
    IsFirstFileFault path bytes reported
    ⊎ (((fault : OpenFault) × (after : KnownBytes) × (t : Table) × (notes kinds : Bytes) × (size : ℕ)
    × IsOpened bytes after t notes kinds size (Some fault) × (reported ≡ cut_off path fault (length t.rows)))
    ⊎ HasBadKinds path bytes reported)

-- The fault of a file from which no row can be had: of its first segment, or the file can't be read further.
abbrev pub IsUnrecoverable : Bor (List ℕ) → KnownBytes → StoreFault → Type 0
IsUnrecoverable path bytes reported = IsFirstFileFault path bytes reported ⊎ ((reported ≡ Unusable path Read) ⊎ (reported ≡ Run NoMemory))

-- A fault of a file is that of one which was opened.
abbrev pub IsOfFile : {S : Type 0} → (S → KnownBytes) → StoreFault → Type 0
IsOfFile {S} rem (Unusable path why) = (file : S) × IsFileFault path (rem file) (Unusable path why)
IsOfFile rem (BadRecords bad) = ⊥
IsOfFile rem fault = Unit {0}
