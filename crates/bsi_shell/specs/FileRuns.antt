-- What a run over files leaves in the output, and what it reports of a fault.
use Rattle.std.specs.Io.KnownBytes.{Keeps}
use Rattle.std.specs.Prelude.{◌≡◌, ◌<◌, ◌≤◌, ⊤, ◌⊎◌, ℕ, false, List, Result, length, map}
use Rattle.bsi_files.specs.RunFaults.{IsFaultOf}
use Rattle.bsi_answers.specs.Runs.{IsRun}
use Rattle.bsi_answers.specs.Writing.{Leaves, WhereKnown, WritesAll}
use Rattle.bsi_answers.specs.declared.faults.FilesFault.{FilesFault}
use Rattle.bsi_answers.specs.declared.faults.FilesFault.TheVariants.{NoMemory}
use Rattle.bsi_rows.specs.Table.{max_feeders}
use Rattle.bsi_shell.specs.FaultLines.{fault_line, IsLineWritten}
use Rattle.bsi_shell.specs.declared.files.RunFault.{RunFault}
use Rattle.bsi_shell.specs.declared.files.RunFault.TheVariants.{CannotOpen, Run}
use Rattle.bsi_input.specs.declared.writing.WriteFault.{WriteFault}
use Rattle.bsi_syntax.specs.Bytes.{KnownBytes}

-- A run over opened files was written.
pub record HasRunOver {S : Type 0} (rem : S → KnownBytes) (before after : KnownBytes) : Type 0 where
  -- The schema file.
  pub schema : S
  -- The asks file.
  pub asks : S
  -- The row files.
  pub rows : List S
  -- There is at least one row file.
  pub some : 0 < length rows
  -- There are at most 64 row files.
  pub few : length rows ≤ max_feeders
  -- If the bytes of all files are known, the lines of a run were appended to the output.
  pub written : WhereKnown (rem schema) (map rem rows) (rem asks)
      (λ declared texts asked. WritesAll (IsRun declared texts) asked before after)

-- What a run that ends by a fault leaves in the output, which is flushed at its end.
abbrev pub LeavesFlushed : List ℕ → List (List ℕ) → List ℕ → FilesFault → KnownBytes → KnownBytes → Type 0
LeavesFlushed declared texts asked fault before after =
    (middle : KnownBytes) × Leaves (IsRun declared texts) asked fault before middle × Keeps middle after

-- A run over opened files ended by a fault.
pub record HasFailedRunOver {S : Type 0} (rem : S → KnownBytes) (fault : FilesFault) (before after : KnownBytes) : Type 0 where
  -- The schema file.
  pub schema : S
  -- The asks file.
  pub asks : S
  -- The row files.
  pub rows : List S
  -- There is at least one row file.
  pub some : 0 < length rows
  -- If the bytes of all files are known, a run over the files can meet the fault.
  pub fault_is : WhereKnown (rem schema) (map rem rows) (rem asks) (λ declared texts asked. IsFaultOf false declared texts fault)
  -- If the bytes of all files are known, the output has what the fault leaves.
  pub written : WhereKnown (rem schema) (map rem rows) (rem asks)
      (λ declared texts asked. LeavesFlushed declared texts asked fault before after)

-- A fault that may be met while files are opened.
abbrev pub IsOpenFault : RunFault → Type 0
IsOpenFault (CannotOpen path) = ⊤
IsOpenFault (Run fault) = fault ≡ NoMemory

-- Why a run ended early: no file was read, and nothing was written; or a run over opened files failed.
abbrev pub HasEndedEarly : {S : Type 0} → (S → KnownBytes) → KnownBytes → KnownBytes → RunFault → Type 0
HasEndedEarly rem before after (CannotOpen path) = Keeps before after
HasEndedEarly rem before after (Run fault) = ((fault ≡ NoMemory) × Keeps before after) ⊎ HasFailedRunOver rem fault before after

-- A run ended early, and the line of its fault was written.
pub record HasFailedFiles {S : Type 0} (rem : S → KnownBytes) (before after : KnownBytes) (reported : Result (Unit {0}) WriteFault) (stderr_before stderr_after : KnownBytes) : Type 0 where
  pub fault : RunFault
  pub failed : HasEndedEarly rem before after fault
  pub line : IsLineWritten reported stderr_before stderr_after (fault_line fault)
