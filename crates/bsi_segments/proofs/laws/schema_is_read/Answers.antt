use Rattle.bsi_segments.proofs.Coding.{same_schema}
use Rattle.bsi_segments.proofs.laws.schema_is_read.Goals as goal

pub returns : goal.returns
returns c = λ schema other rest more declared others same. same_schema schema other rest more declared others same
