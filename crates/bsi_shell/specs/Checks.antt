-- What a check of files or of a saved index leaves in the output, and what it reports of a fault.
use Rattle.std.specs.Io.KnownBytes.{Keeps}
use Rattle.std.specs.Prelude.{◌≡◌, ◌⊎◌, ℕ, Bool, true, false, List, Option, Result, Ok}
use Rattle.std.specs.Borrow.{Bor}
use Rattle.bsi_answers.specs.declared.faults.FilesFault.TheVariants as run
use Rattle.bsi_check.specs.Reports.{HasBegunReport, HasReported}
use Rattle.bsi_check.specs.declared.fault.CheckFault.{CheckFault}
use Rattle.bsi_check.specs.declared.named.NamedFile.{NamedFile}
use Rattle.bsi_check.specs.declared.fault.CheckFault.TheVariants as check
use Rattle.bsi_input.specs.declared.writing.WriteFault.{WriteFault}
use Rattle.bsi_shell.specs.FaultLines.{fault_line, IsLineWritten}
use Rattle.bsi_shell.specs.StoreRuns.{HasFailedStore, IsFlushed}
use Rattle.bsi_shell.specs.declared.files.RunFault.{RunFault}
use Rattle.bsi_shell.specs.declared.files.RunFault.TheVariants.{CannotOpen, Run}
use Rattle.bsi_store.specs.Asked.{HasReadWhole, LeavesRowCount}
use Rattle.bsi_store.specs.Faults.{IsOfFile, NamesPath}
use Rattle.bsi_store.specs.declared.fault.StoreFault.{StoreFault}
use Rattle.bsi_syntax.specs.Bytes.{KnownBytes}

-- The fault of a command whose check ended early.
abbrev pub check_fault_of : CheckFault → RunFault
check_fault_of check.NoMemory = Run run.NoMemory
check_fault_of check.Write = Run run.Write

-- What `Is` says was done over some files.
pub record IsOverOpened {S : Type 0}
    (Is : NamedFile S → List (NamedFile S) → Option (NamedFile S) → KnownBytes → KnownBytes → Type 0)
    (before after : KnownBytes) : Type 0 where
  -- The schema file.
  pub schema : NamedFile S
  -- The asks file, if there is one.
  pub asks : Option (NamedFile S)
  -- The row files.
  pub rows : List (NamedFile S)
  -- The bytes of the output before the flush.
  pub middle : KnownBytes
  -- `Is` holds of the files and of what was written to the output.
  pub is : Is schema rows asks before middle
  -- The flush left the bytes of the output unchanged.
  pub flushed : Keeps middle after

-- A check of some files was written. It says whether there was no finding.
abbrev pub HasReportedOver : {S : Type 0} → (S → KnownBytes) → KnownBytes → KnownBytes → Bool → Type 0
HasReportedOver rem before after good =
    IsOverOpened (λ schema rows asks start end. HasReported rem schema rows asks start end good) before after

-- A check of some files had no finding: the schema is valid, all records are good, and each ask is a query.
abbrev pub HasChecked : {S : Type 0} → (S → KnownBytes) → KnownBytes → KnownBytes → Type 0
HasChecked rem before after = HasReportedOver rem before after true

-- What a failed check leaves in the output: nothing or, if the output can't be written, a prefix.
abbrev pub LeavesCheck : {S : Type 0} → (S → KnownBytes) → RunFault → KnownBytes → KnownBytes → Type 0
LeavesCheck rem (CannotOpen path) before after = after ≡ before
LeavesCheck rem (Run run.NoMemory) before after = after ≡ before
LeavesCheck rem (Run run.Write) before after = IsOverOpened (HasBegunReport rem) before after
LeavesCheck rem fault before after = ⊥

-- A check of some files had findings, and no line of a fault; or it ended early, and the line of its fault was
-- written.
abbrev pub HasFailedCheck : {S : Type 0} → (S → KnownBytes) → KnownBytes → KnownBytes
    → Result (Unit {0}) WriteFault → KnownBytes → KnownBytes → Type 0
HasFailedCheck rem before after reported stderr_before stderr_after =
    (HasReportedOver rem before after false × (reported ≡ Ok tt) × (stderr_after ≡ stderr_before))
    ⊎ ((fault : RunFault) × LeavesCheck rem fault before after × IsLineWritten reported stderr_before stderr_after (fault_line fault))

-- What a fault of the check of a saved index says and leaves.
pub record LeavesIndexCheck {S : Type 0} (rem : S → KnownBytes) (path : Bor (List ℕ)) (fault : StoreFault) (before after : KnownBytes) : Type 0 where
  pub named : NamesPath (λ named. named ≡ path) fault
  pub met : IsOfFile rem fault
  pub partial : LeavesRowCount rem fault before after

-- A check had no finding: of files, or of a saved index, all of which was read.
abbrev pub HasCheckedEither : {S : Type 0} → (S → KnownBytes) → KnownBytes → KnownBytes → Type 0
HasCheckedEither rem before after = HasChecked rem before after ⊎ IsFlushed (HasReadWhole rem) before after

-- A check of files had findings or ended early, or the saved index of a path could not be read whole.
abbrev pub HasFailedEitherCheck : {S : Type 0} → (S → KnownBytes) → KnownBytes → KnownBytes
    → Result (Unit {0}) WriteFault → KnownBytes → KnownBytes → Type 0
HasFailedEitherCheck rem before after reported stderr_before stderr_after =
    HasFailedCheck rem before after reported stderr_before stderr_after
    ⊎ ((path : Bor (List ℕ)) × HasFailedStore (LeavesIndexCheck rem path) (HasReadWhole rem) before after reported stderr_before stderr_after)
