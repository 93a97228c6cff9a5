use Rattle.bsi_check.proofs.Telling.{reported_one}
use Rattle.bsi_check.proofs.lines.add_reason_line.Goals as goal

pub returns : goal.returns
returns c = reported_one c.push_line.result c.args.path.now c.args.why.now c.args.reasons.now.items c.push_line.new.reasons.items c.push_line.ensures
