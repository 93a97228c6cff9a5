use Rattle.std.proofs.Common.{◌≡◌, ◌+◌, ◌-◌, arith}
use Rattle.bsi_inference.proofs.Widening.{sees_more}
use Rattle.bsi_inference.proofs.decimals.Decimals.scale_to.Goals as goal

pub returns-clause-preserved : goal.returns-clause-preserved
returns-clause-preserved c = λ point f accepted.
    let more : c.args.places ≡ c.args.self.places + (c.args.places - c.args.self.places) = omega arith in
    sees_more point c.args.self.places (c.args.places - c.args.self.places) c.args.places more f c.args.self.seen c.scaled.result
    c.scaled.ensures.preserved c.scaled.ensures.ruled_out accepted
