use Rattle.std.proofs.Common.{ap, arith, length}
use Rattle.rtrb.specs.Ring.{sent}
use Rattle.bsi_system.proofs.Messages.{many_rows}
use Rattle.bsi_system.proofs.feeder.spend_credits.Goals as goal

-- as many messages were sent as the ring has credits, and each has a row
pub returns-else-not-is_full-clause-many : goal.returns-else-not-is_full-clause-many
returns-else-not-is_full-clause-many c = λ none.
    let looked = c.is_full.ensures.looked in
    let full = c.is_full.ensures.value.0 c.if-not-is_full.false in
    omega (arith, full, c.is_full.new.self.counts.0, ap length looked.1, looked.0.1, many_rows (sent c.args.ring.now), c.requires.some)
