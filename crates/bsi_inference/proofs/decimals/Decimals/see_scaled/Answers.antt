use Rattle.std.proofs.Common.{◌≡◌, ◌+◌, ◌-◌, arith}
use Rattle.bsi_inference.proofs.Widening.{sees_more, sees_read}
use Rattle.bsi_inference.proofs.decimals.Decimals.see_scaled.Goals as goal

pub returns-clause-accepts : goal.returns-clause-accepts
returns-clause-accepts c =
    sees_read c.args.point c.args.places c.args.field.now c.with.result c.read_decimal-number.result c.read_decimal-number.ensures c.with.ensures.number c.with.ensures.none

pub returns-clause-preserved : goal.returns-clause-preserved
returns-clause-preserved c = λ f accepted.
    let more : c.args.places ≡ c.args.self.places + (c.args.places - c.args.self.places) = omega arith in
    sees_more c.args.point c.args.self.places (c.args.places - c.args.self.places) c.args.places more f c.args.self.seen c.with.result
    (λ n covers. c.with.ensures.preserved _ (c.scaled-scaled.ensures.preserved n covers)) (λ ruled_out. c.with.ensures.ruled_out (c.scaled-scaled.ensures.ruled_out ruled_out)) accepted
