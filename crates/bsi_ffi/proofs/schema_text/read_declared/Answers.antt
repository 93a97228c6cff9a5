use Rattle.std.proofs.Common.{rules}
use Rattle.bsi_input.specs.SchemaTexts.{IsSchemaFault}
use Rattle.bsi_ffi.proofs.schema_text.read_declared.Goals as goal

-- the bytes in memory are those that were read
pub returns-in-Err-clause-refused : goal.returns-in-Err-clause-refused
returns-in-Err-clause-refused c =
    let fault : IsSchemaFault c.args.text.now c.in-Err.fault = search rules in
    c.refusal_of.ensures c.args.text.now fault
