use Rattle.std.proofs.Common.{true, refl, rules}
use Rattle.csv.specs.Reading.{ReadRecord}
use Rattle.csv.specs.Records.{fields_of}
use Rattle.bsi_input.proofs.Taking.{layout_behind}
use Rattle.bsi_input.proofs.rows.read_layout.Goals as goal

pub returns-clause-after_header : goal.returns-clause-after_header
returns-clause-after_header g c =
    let input = c.read_next_by.new.input in
    let fields = fields_of c.read_next_by.new.fields in
    let reads : ReadRecord g.R.Read.remaining c.args.input.now input true fields = search rules in
    layout_behind g.R.Read.remaining c.args.input.now input fields (g.F.RowFormat.format c.args.format.now) c.requires.by.config c.requires.start g.F.RowFormat.format c.args.format.now c.in_ok-new.field-0 c.ok_or.result refl c.in_ok-new.ensures
    c.ok_or.ensures.ok_part reads
