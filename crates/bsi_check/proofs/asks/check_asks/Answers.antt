use Rattle.bsi_check.proofs.Telling.{reported_unread}
use Rattle.bsi_check.proofs.asks.check_asks.Goals as goal

-- after some of them the fault is reported
pub returns-clause-reported : goal.returns-clause-reported
returns-clause-reported g c =
    let reported = c.in_ok-add_unread-in-Err.ensures in
    reported_unread c.args.path.now c.in-Err.fault c.args.reasons.now.items c.check_each_ask.new.reasons.items c.add_unread.new.reasons.items
    reported.fault (c.in-Err.ensures.some_reasons reported.fault) reported.reported
