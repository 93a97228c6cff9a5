use Rattle.bsi_projection.proofs.Joining.{answer-joined}
use Rattle.bsi_projection.proofs.laws.answers_over_parts_are_joined.Goals as goal

pub returns : goal.returns
returns c = λ query rows more answer other may one two. answer-joined query rows more answer other may one two
