-- What is printed of a fault of a script.
use Rattle.std.specs.Prelude.{ℕ, List, codes}
use Rattle.bsi_text.specs.declared.script.ScriptFault.{ScriptFault}
use Rattle.bsi_text.specs.declared.script.ScriptFault.TheVariants as script

abbrev pub script_fault_text : ScriptFault → List ℕ
script_fault_text script.Read = codes "bsi: read failed"
script_fault_text script.Write = codes "bsi: write failed"
script_fault_text script.NoMemory = codes "bsi: no memory"
script_fault_text script.TooLong = codes "bsi: input too long"
