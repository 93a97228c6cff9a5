use Rattle.bsi_inference.proofs.Steps.{fallen_next, read_next}
use Rattle.bsi_inference.proofs.candidate.Candidate.observe.Goals as goal

pub returns-in-RuledOut : goal.returns-in-RuledOut
returns-in-RuledOut c = fallen_next c.args.field.now c.args.self.now c.in-RuledOut.is

pub returns : goal.returns
returns c =
    let s = c.with-self.ensures in
    read_next c.args.field.now c.args.self.now.form c.args.self.now.seen c.with-self.result s.preserved s.ruled_out c.read.result c.read.ensures.some c.read.ensures.none s.number s.none s.seen
