-- What is printed of a fault of a row file.
use Rattle.std.specs.Prelude.{ℕ, List, codes}
use Rattle.bsi_input.specs.declared.rows.SourceFault.{SourceFault}
use Rattle.bsi_input.specs.declared.rows.SourceFault.TheVariants as source

abbrev pub source_fault_text : SourceFault → List ℕ
source_fault_text source.BadHeader = codes "bad header"
source_fault_text source.Read = codes "read failed"
source_fault_text source.NoMemory = codes "no memory"
source_fault_text source.TooLong = codes "input too long"
