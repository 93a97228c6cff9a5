use Rattle.bsi_check.proofs.Telling.{unread_reported}
use Rattle.bsi_check.proofs.rows.check_rows.Goals as goal

-- after some of its reasons the fault is reported
pub returns-clause-reported : goal.returns-clause-reported
returns-clause-reported g c =
    unread_reported c.args.path.now c.in-Err.fault c.args.reasons.now.items c.check_input.new.reasons.items c.add_unread.new.reasons.items c.add_unread.result
    c.add_unread.ensures.finding c.add_unread.ensures.fault c.in-Err.ensures.some_reasons c.add_unread.ensures.reported
