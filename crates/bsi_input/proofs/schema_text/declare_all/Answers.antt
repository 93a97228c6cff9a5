use Rattle.std.proofs.Common.{◌+◌, ◌≤◌, false, true, refl, rules, arith, ◌∙◌}
use Rattle.csv.specs.Reading.{source_of}
use Rattle.csv.specs.Records.{fields_of}
use Rattle.bsi_syntax.specs.Setups.{declared_table, table_after, IsChange}
use Rattle.bsi_input.specs.RecordSources.{FailsAt, ReadsNextRecord}
use Rattle.bsi_input.proofs.Declaring.{declared_bad, declared_fault, declared_more, declared_none, passed_on}
use Rattle.bsi_input.proofs.schema_text.declare_all.Goals as goal
use Rattle.bsi_input.specs.Formats.{max_records}

pub records-init : goal.records-init
records-init g c = record {
  going = c.requires.fresh.1;
  counted = c.requires.fresh.0;
  few = omega (arith, c.requires.fresh.0);
  declared = λ bytes left. declared_none bytes _ _ _ _ c.requires.start c.requires.fresh.0 c.requires.none left;
}

-- the next record can't be read, or there are too many
pub returns-in_err-next_record-clause-fault : goal.returns-in_err-next_record-clause-fault
returns-in_err-next_record-clause-fault g c =
    let fault = c.in_err-next_record.field-0.0 in
    let stops : FailsAt g.R.Read.remaining c.records.records c.next_record.new.self fault = search rules in
    passed_on (source_of g.R.Read.remaining c.args.records.now.input) c.from_residual.result fault c.from_residual.ensures.1 (λ bytes left.
    declared_fault g.R.Read.remaining bytes c.records.records.input c.records.records.input c.records.records.read_so_far
    c.records.table (c.records.invariant.declared bytes left) fault stops.0.0 stops.0.1)

pub records-preserved : goal.records-preserved
records-preserved g c =
    let fields = fields_of c.next_record.new.fields in
    let read_so_far : ReadsNextRecord g.R.Read.remaining c.records.records c.next_record.new.self fields true = search rules in
    let change : IsChange (table_after c.records.table fields) c.records.table (declared_table c.read_setup.new.schema c.read_setup.new.limit) true = search rules in
    record {
      going = read_so_far.1;
      counted = read_so_far.0.1 ∙ omega (arith, c.records.invariant.counted);
      few = c.next_record.ensures.few;
      declared = λ bytes left.
          declared_more g.R.Read.remaining bytes c.records.records.input c.next_record.new.self.input c.records.records.read_so_far
          c.records.table (c.records.invariant.declared bytes left) fields c.next_record.new.self.read_so_far (declared_table c.read_setup.new.schema c.read_setup.new.limit) true read_so_far.0.0 read_so_far.0.1 change refl;
    }

-- the record that was read last can't be done
pub returns-then-not-branch-2-clause-fault : goal.returns-then-not-branch-2-clause-fault
returns-then-not-branch-2-clause-fault g c = λ bytes left.
    let fields = fields_of c.next_record.new.fields in
    let read_so_far : ReadsNextRecord g.R.Read.remaining c.records.records c.next_record.new.self fields true = search rules in
    let change : IsChange (table_after c.records.table fields) c.records.table (declared_table c.read_setup.new.schema c.read_setup.new.limit) false = search rules in
    let few : c.records.before + 1 ≤ max_records = omega (arith, c.records.invariant.counted, read_so_far.0.1, c.next_record.ensures.few) in
    declared_bad g.R.Read.remaining bytes c.records.records.input c.next_record.new.self.input c.records.records.read_so_far
    c.records.table (c.records.invariant.declared bytes left) fields (c.records.before + 1) (declared_table c.read_setup.new.schema c.read_setup.new.limit) false
    read_so_far.0.0 (omega (arith, c.records.invariant.counted)) few change refl
