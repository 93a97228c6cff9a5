use Rattle.std.proofs.Common.{true, refl, rules}
use Rattle.csv.specs.Reading.{ReadRecord}
use Rattle.csv.specs.Records.{fields_of}
use Rattle.bsi_input.proofs.Taking.{one_read}
use Rattle.bsi_input.proofs.layout.Layout.read_record.Goals as goal

pub returns-clause-reads : goal.returns-clause-reads
returns-clause-reads g c =
    let input = c.read_next.new.input in
    let fields = fields_of c.read_next.new.fields in
    let reads : ReadRecord g.R.Read.remaining c.args.input.now input true fields = search rules in
    (one_read g.R.Read.remaining c.args.input.now input fields c.requires.by.config reads, refl)
