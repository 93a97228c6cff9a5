use Rattle.std.proofs.Common.{string_bytes}
use Rattle.csv.specs.Records.{fields_of}
use Rattle.bsi_check.proofs.Judging.{reason_more}
use Rattle.bsi_check.proofs.diagnostics.records.why_bad_record.Goals as goal

-- the line ends come behind it
pub returns : goal.returns
returns g c =
    reason_more (g.F.RowFormat.format c.args.format.now) (g.F.Explains.judge c.args.format.now) (fields_of c.args.header.now) (fields_of c.args.fields.now)
    (string_bytes c.in_ok-why.why) (string_bytes c.add_line_ends.new.text) c.in_ok-why.ensures c.in_ok-add_line_ends.ensures
