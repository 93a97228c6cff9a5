use Rattle.bsi_logical.proofs.PlainTexts.{reads_plain}
use Rattle.bsi_logical.proofs.schema_file.read_schema_file.Goals as goal

pub returns-clause-plain : goal.returns-clause-plain
returns-clause-plain c = λ schema limit text. reads_plain c.args.text.now schema limit text c.read_file.result c.read_file.ensures.declared c.read_file.ensures.fault
