use Rattle.std.proofs.Common.{None, Some, IfSome, inr}
use Rattle.bsi_input.specs.declared.rows.SourceFault.TheVariants.{NoMemory, Read}
use Rattle.bsi_logical.specs.SchemaFiles.{IsSchemaFileFault}
use Rattle.bsi_logical.specs.declared.logical_text.LogicalFault.TheVariants.{Source}
use Rattle.bsi_store.proofs.save.read_declared.Goals as goal
use Rattle.bsi_syntax.specs.Bytes.{KnownBytes}

-- a reader that fails, or memory that is refused, says nothing of the text
unread : (known : KnownBytes) → IfSome known (λ text. IsSchemaFileFault text (Source Read))
unread None = tt
unread (Some text) = inr tt

refused : (known : KnownBytes) → IfSome known (λ text. IsSchemaFileFault text (Source NoMemory))
refused None = tt
refused (Some text) = inr tt

pub returns-in-Err-clause-fault : goal.returns-in-Err-clause-fault
returns-in-Err-clause-fault g c = record { why = Source NoMemory; met = refused (g.S.Read.remaining c.args.file); fault_is = c.declaration_fault.ensures }

pub returns-in-Err-2-clause-fault : goal.returns-in-Err-2-clause-fault
returns-in-Err-2-clause-fault g c = record { why = Source Read; met = unread (g.S.Read.remaining c.args.file); fault_is = c.declaration_fault-in-Err-2.ensures }
