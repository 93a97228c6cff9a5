use Rattle.std.proofs.Common.{arith}
use Rattle.bsi_check.proofs.Telling.{bad_many}
use Rattle.bsi_check.proofs.rows.check_records.Goals as goal

pub returns-in_ok-add_more_bad-clause-reported : goal.returns-in_ok-add_more_bad-clause-reported
returns-in_ok-add_more_bad-clause-reported g c =
    bad_many c.args.path.now c.in_ok-counts.counts.bad c.args.reasons.now.items c.count_records.new.reasons.items c.add_more_bad.new.reasons.items
    (omega (arith, c.if-counts-gt-MAX_REASONS.true)) c.in_ok-counts.ensures.reported c.in_ok-add_more_bad.ensures
