-- How long the parts of a fault's text are.
use Rattle.std.proofs.Common.{◌≤◌, length, arith}
use Rattle.bsi_answers.specs.FaultTexts.{which_text}
use Rattle.bsi_answers.specs.declared.faults.Which.{Which}
use Rattle.bsi_answers.specs.declared.faults.Which.TheVariants.{AsksFile, SchemaFile}
use Rattle.bsi_input.specs.FaultTexts.{source_fault_text}
use Rattle.bsi_input.specs.declared.rows.SourceFault.{SourceFault}
use Rattle.bsi_input.specs.declared.rows.SourceFault.TheVariants as source

pub which_short : (which : Which) → length (which_text which) ≤ 6
which_short SchemaFile = omega arith
which_short AsksFile = omega arith

pub source_short : (fault : SourceFault) → length (source_fault_text fault) ≤ 15
source_short source.BadHeader = omega arith
source_short source.Read = omega arith
source_short source.NoMemory = omega arith
source_short source.TooLong = omega arith
