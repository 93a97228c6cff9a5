use Rattle.std.proofs.Common.{◌≡◌, None, Some, length, sym, subst, ap, arith, ◌∙◌}
use Rattle.csv.specs.Records.{fields_of}
use Rattle.bsi_input.specs.RecordSources.{ReadsRecordBy}
use Rattle.bsi_input.specs.Formats.{given, good_row}
use Rattle.bsi_input.specs.Sources.{counts_of, layout_by}
use Rattle.bsi_input.proofs.Filling.{put_bad, put_good, put_none, puts_all, puts_before, puts_full, puts_wanting}
use Rattle.bsi_input.proofs.rows.put_rows.Goals as goal

pub records-init : goal.records-init
records-init g c = record {
  put = put_none g.R.Read.remaining (layout_by g.F.RowFormat.format c.args.layout.now) c.args.input.now (counts_of c.args.read_so_far.now c.args.bad.now) c.args.feeder c.args.block.now c.requires.by c.requires.counts;
  wide = c.in_ok-make_room.ensures.wide;
}

-- memory for a row is refused
pub returns-in_err-make_room-clause-puts : goal.returns-in_err-make_room-clause-puts
returns-in_err-make_room-clause-puts g c =
    puts_wanting g.R.Read.remaining (layout_by g.F.RowFormat.format c.args.layout.now) c.args.input.now c.args.input.now (counts_of c.args.read_so_far.now c.args.bad.now) (counts_of c.args.read_so_far.now c.args.bad.now) c.args.feeder
    c.args.block.now c.args.block.now
    (put_none g.R.Read.remaining (layout_by g.F.RowFormat.format c.args.layout.now) c.args.input.now (counts_of c.args.read_so_far.now c.args.bad.now) c.args.feeder c.args.block.now c.requires.by c.requires.counts)
    c.args.input.now c.from_residual.result c.from_residual.ensures.1 c.requires.room

-- the next record can't be read, or there are too many
pub returns-in_err-read_record-clause-puts : goal.returns-in_err-read_record-clause-puts
returns-in_err-read_record-clause-puts g c =
    puts_before _ _ _ _ _ _ _ _ _ c.records.invariant.put c.read_record.new.input c.from_residual-in_err-read_record.result c.in_err-read_record.field-0.0 c.read_record.new.read_so_far
    c.from_residual-in_err-read_record.ensures.1 c.in_err-read_record.ensures.stopped (omega (arith, c.len.ensures.len, c.records-test.true))

-- no record is left
pub returns-then-not-branch-clause-puts : goal.returns-then-not-branch-clause-puts
returns-then-not-branch-clause-puts g c =
    let takes = subst (ReadsRecordBy (g.F.RowFormat.format c.args.layout.now.format).config g.R.Read.remaining c.records.input c.read_record.new.input c.records.read_so_far c.read_record.new.read_so_far (fields_of c.read_record.new.fields))
    c.if-not-branch.true c.in_ok-read_record.ensures.reads in
    puts_all _ _ _ _ _ _ _ _ _ c.records.invariant.put c.read_record.new.input takes.0 (omega (arith, c.len.ensures.len, c.records-test.true))

pub records-preserved-then-not-good : goal.records-preserved-then-not-good
records-preserved-then-not-good g c =
    let takes = subst (ReadsRecordBy (g.F.RowFormat.format c.args.layout.now.format).config g.R.Read.remaining c.records.input c.read_record.new.input c.records.read_so_far c.read_record.new.read_so_far (fields_of c.read_record.new.fields))
    c.if-not-branch.false c.in_ok-read_record.ensures.reads in
    let is_bad : given c.add-good.result c.add-good.new.entries.items ≡ None = ap (λ good. given good c.add-good.new.entries.items) c.if-not-good.true in
    record {
      put = put_bad _ _ _ _ _ _ _ _ _ c.records.invariant.put c.read_record.new.input c.read_record.new.read_so_far (fields_of c.read_record.new.fields) c.add-good.new.block takes
          c.in_ok-read_record.ensures.by c.read_record.ensures.few (cc (is_bad, c.add-good.ensures.row)) (c.add-good.ensures.unchanged c.if-not-good.true);
      wide = c.add-good.ensures.wide;
    }

pub records-preserved : goal.records-preserved
records-preserved g c =
    let takes = subst (ReadsRecordBy (g.F.RowFormat.format c.args.layout.now.format).config g.R.Read.remaining c.records.input c.read_record.new.input c.records.read_so_far c.read_record.new.read_so_far (fields_of c.read_record.new.fields))
    c.if-not-branch.false c.in_ok-read_record.ensures.reads in
    let good : Some c.add-good.new.entries.items ≡ good_row (g.F.RowFormat.format c.args.layout.now.format) c.args.layout.now.header (fields_of c.read_record.new.fields) =
    sym (ap (λ good. given good c.add-good.new.entries.items) c.if-not-good.false) ∙ c.add-good.ensures.row in
    record {
      put = put_good _ _ _ _ _ _ _ _ _ c.records.invariant.put c.read_record.new.input c.read_record.new.read_so_far (fields_of c.read_record.new.fields) c.add-good.new.entries.items c.add-good.new.block takes
          c.in_ok-read_record.ensures.by c.read_record.ensures.few good (c.add-good.ensures.fits c.if-not-good.false) (c.add-good.ensures.added c.if-not-good.false);
      wide = c.add-good.ensures.wide;
    }

pub returns-clause-puts : goal.returns-clause-puts
returns-clause-puts g c =
    let full : length c.records.block.rows ≡ 64 = omega (arith, c.records-test.false, c.len.ensures.within, c.len.ensures.len) in
    puts_full _ _ _ _ _ _ _ _ _ c.records.invariant.put full

-- the bad records are among those that were read before
pub overflow_add-bad : goal.overflow_add-bad
overflow_add-bad g c =
    let takes = subst (ReadsRecordBy (g.F.RowFormat.format c.args.layout.now.format).config g.R.Read.remaining c.records.input c.read_record.new.input c.records.read_so_far c.read_record.new.read_so_far (fields_of c.read_record.new.fields))
    c.if-not-branch.false c.in_ok-read_record.ensures.reads in
    record { fits = omega (arith, c.records.invariant.put.counts.bad, takes.1, c.read_record.ensures.few, c.most_records-most.ensures) }
