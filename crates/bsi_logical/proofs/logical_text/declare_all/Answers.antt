use Rattle.std.proofs.Common.{◌+◌, ◌≤◌, true, subst, sym, rules, arith, ◌∙◌}
use Rattle.csv.specs.Reading.{source_of}
use Rattle.csv.specs.Records.{fields_of}
use Rattle.bsi_input.specs.RecordSources.{FailsAt, ReadsNextRecord}
use Rattle.bsi_input.specs.Formats.{max_records}
use Rattle.bsi_logical.specs.LogicalTexts.{IsLogicalFault}
use Rattle.bsi_logical.proofs.Saying.{passed_on, said_fault, said_more, said_none, source_fault}
use Rattle.bsi_logical.proofs.logical_text.declare_all.Goals as goal

pub records-init : goal.records-init
records-init g c = record {
  going = c.requires.fresh.1;
  counted = c.requires.fresh.0;
  few = omega (arith, c.requires.fresh.0);
  said = λ bytes left. said_none bytes _ _ _ _ c.requires.start c.requires.fresh.0 c.requires.none left;
}

-- the next record can't be read, or there are too many
pub returns-in_err-next_record-clause-fault : goal.returns-in_err-next_record-clause-fault
returns-in_err-next_record-clause-fault g c =
    let fault = c.in_err-next_record.field-0.0 in
    let stops : FailsAt g.R.Read.remaining c.records.records c.next_record.new.self fault = search rules in
    passed_on (source_of g.R.Read.remaining c.args.records.now.input) c.from_residual.result fault c.from_residual.ensures.1 (λ bytes left.
    source_fault g.R.Read.remaining bytes c.records.records.input c.records.records.input c.records.records.read_so_far
    c.records.logical (c.records.invariant.said bytes left) fault stops.0.0 stops.0.1)

pub records-preserved : goal.records-preserved
records-preserved g c =
    let fields = fields_of c.next_record.new.fields in
    let read_so_far : ReadsNextRecord g.R.Read.remaining c.records.records c.next_record.new.self fields true = search rules in
    record {
      going = read_so_far.1;
      counted = read_so_far.0.1 ∙ omega (arith, c.records.invariant.counted);
      few = c.next_record.ensures.few;
      said = λ bytes left.
          said_more g.R.Read.remaining bytes c.records.records.input c.next_record.new.self.input c.records.records.read_so_far
          c.records.logical (c.records.invariant.said bytes left) fields c.next_record.new.self.read_so_far c.declare.new.self read_so_far.0.0 read_so_far.0.1 c.in_default.ensures;
    }

-- the record that was read last was not carried out
pub returns-in-Err-clause-fault : goal.returns-in-Err-clause-fault
returns-in-Err-clause-fault g c = λ bytes left.
    let fields = fields_of c.next_record.new.fields in
    let read_so_far : ReadsNextRecord g.R.Read.remaining c.records.records c.next_record.new.self fields true = search rules in
    let few : c.records.before + 1 ≤ max_records = omega (arith, c.records.invariant.counted, read_so_far.0.1, c.next_record.ensures.few) in
    subst (λ f. IsLogicalFault bytes f) (sym c.fault_of.ensures)
    (said_fault g.R.Read.remaining bytes c.records.records.input c.next_record.new.self.input c.records.records.read_so_far
    c.records.logical (c.records.invariant.said bytes left) fields (c.records.before + 1) c.declare.new.self c.in-Err.error
    read_so_far.0.0 (omega (arith, c.records.invariant.counted)) few c.in-Err.ensures)
