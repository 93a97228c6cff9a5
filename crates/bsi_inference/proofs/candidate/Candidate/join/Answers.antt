use Rattle.bsi_inference.proofs.Steps.{join_next}
use Rattle.bsi_inference.proofs.candidate.Candidate.join.Goals as goal

pub returns : goal.returns
returns c =
    let s = c.join.ensures in
    join_next c.args.self c.args.other c.join.result c.requires s.preserved s.joined s.ruled_out s.other_ruled_out s.seen
