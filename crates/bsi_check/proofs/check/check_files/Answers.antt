use Rattle.bsi_check.proofs.Written.{has_reported}
use Rattle.bsi_check.proofs.check.check_files.Goals as goal

pub returns-clause-reported : goal.returns-clause-reported
returns-clause-reported g c =
    has_reported c.write_report.result g.S.Read.remaining c.args.schema c.args.rows.items c.args.asks
    (g.W.Write.contents c.args.output.now) (g.W.Write.contents c.write_report.new.output) c.in_ok-report.report.reasons.items c.in_ok-report.report.fed.items
    c.in_ok-report.ensures c.write_report.ensures.written
