use Rattle.bsi_check.specs.Reports.{IsRowReport}
use Rattle.bsi_check.proofs.Written.{has_written}
use Rattle.bsi_check.proofs.row_files.check_row_files.Goals as goal

pub returns-clause-reported : goal.returns-clause-reported
returns-clause-reported g c =
    has_written c.write_report.result (IsRowReport g.S.Read.remaining (g.F.RowFormat.format c.args.format.now) c.args.limit c.args.path.now c.args.rows.items)
    (g.W.Write.contents c.args.output.now) (g.W.Write.contents c.write_report.new.output) c.in_ok-report.report.reasons.items c.in_ok-report.report.fed.items
    c.in_ok-report.ensures c.write_report.ensures.written
