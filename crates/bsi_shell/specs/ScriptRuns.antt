-- What a script that ends by a fault leaves in the output, and what is reported of it.
use Rattle.std.specs.Io.KnownBytes.{Keeps}
use Rattle.std.specs.Prelude.{◌≡◌, ◌⊎◌, ◌++◌, Result, codes}
use Rattle.bsi_shell.specs.FaultLines.{IsLineWritten}
use Rattle.bsi_text.specs.FaultTexts.{script_fault_text}
use Rattle.bsi_input.specs.Texts.{IfBytesKnown, IsTooLong, WrotePrefix, WroteWholeLines}
use Rattle.bsi_text.specs.declared.script.ScriptFault.{ScriptFault}
use Rattle.bsi_text.specs.declared.script.ScriptFault.TheVariants.{NoMemory, TooLong, Write}
use Rattle.bsi_input.specs.declared.writing.WriteFault.{WriteFault}
use Rattle.bsi_syntax.specs.Bytes.{KnownBytes}

-- What a fault leaves of the lines of an input: those of the first 1,000,000 records, if there are more; else some
-- first lines. Only a writer that failed cuts a line.
abbrev pub LeavesScript : KnownBytes → ScriptFault → KnownBytes → KnownBytes → Type 0
LeavesScript input TooLong before after = IfBytesKnown input IsTooLong before after
LeavesScript input Write before after = IfBytesKnown input WrotePrefix before after
LeavesScript input fault before after = IfBytesKnown input WroteWholeLines before after

-- A script ended early, or memory was refused before it began. The line of the fault was written.
pub record HasFailedScript (input before after : KnownBytes) (reported : Result (Unit {0}) WriteFault) (stderr_before stderr_after : KnownBytes) : Type 0 where
  pub fault : ScriptFault
  pub left : ((fault ≡ NoMemory) × Keeps before after) ⊎ LeavesScript input fault before after
  pub line : IsLineWritten reported stderr_before stderr_after (script_fault_text fault ++ codes "\n")
