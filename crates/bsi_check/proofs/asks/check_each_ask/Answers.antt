use Rattle.std.proofs.Common.{arith}
use Rattle.bsi_check.proofs.Telling.{bad_many}
use Rattle.bsi_check.proofs.asks.check_each_ask.Goals as goal

pub returns-in_ok-add_more_bad-clause-reported : goal.returns-in_ok-add_more_bad-clause-reported
returns-in_ok-add_more_bad-clause-reported g c =
    bad_many c.args.path.now c.in_ok-bad.bad c.args.reasons.now.items c.count_asks.new.reasons.items c.add_more_bad.new.reasons.items
    (omega (arith, c.if-bad-gt-MAX_REASONS.true)) c.in_ok-bad.ensures.reported c.in_ok-add_more_bad.ensures
