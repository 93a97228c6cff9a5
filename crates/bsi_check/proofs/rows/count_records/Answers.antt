use Rattle.std.proofs.Common.{◌≡◌, ◌<◌, ◌≤◌, true, false, rules, ap, arith, refl, sym, ◌∙◌, is_some}
use Rattle.csv.specs.Reading.{ReadRecord}
use Rattle.csv.specs.Records.{fields_of}
use Rattle.bsi_input.specs.Formats.{good_row}
use Rattle.bsi_input.specs.Sources.{layout_by}
use Rattle.bsi_check.proofs.Counting.{counted_all, counted_bad, counted_good, counted_long, counted_none}
use Rattle.bsi_check.proofs.Telling.{first_more, first_none, first_past, one_told}
use Rattle.bsi_check.proofs.rows.count_records.Goals as goal

pub records-init : goal.records-init
records-init g c = record {
  counted = counted_none g.I.Read.remaining (layout_by g.F.RowFormat.format c.args.layout.now) c.args.input.now c.requires;
  reported = first_none c.args.path.now c.args.reasons.now.items;
}

pub returns-then-not-branch-clause-counted : goal.returns-then-not-branch-clause-counted
returns-then-not-branch-clause-counted g c =
    let none : ReadRecord g.I.Read.remaining c.records.input c.read_record.new.input false (fields_of c.read_record.new.fields) = search rules in
    counted_all g.I.Read.remaining (layout_by g.F.RowFormat.format c.args.layout.now) c.args.input.now c.records.input c.records.records c.records.bad
    c.records.invariant.counted c.read_record.new.input (fields_of c.read_record.new.fields) _ refl refl none

pub records-preserved-then-good : goal.records-preserved-then-good
records-preserved-then-good g c =
    let fields = fields_of c.read_record.new.fields in
    let next : ReadRecord g.I.Read.remaining c.records.input c.read_record.new.input true fields = search rules in
    let good : true ≡ is_some (good_row (g.F.RowFormat.format c.args.layout.now.format) c.args.layout.now.header fields) = sym c.if-good.true ∙ c.in_ok-good.ensures in
    let few : c.records.records < (g.F.RowFormat.format c.args.layout.now.format).most = omega (arith, c.records-test.true, c.most_records-most.ensures, ap (λ (f : g.row.F.Denot). (g.F.RowFormat.format f).most) c.format.ensures) in
    record {
      counted = counted_good g.I.Read.remaining (layout_by g.F.RowFormat.format c.args.layout.now) c.args.input.now c.records.input c.records.records c.records.bad
          c.records.invariant.counted c.read_record.new.input fields next c.in_ok-read_record.ensures.by few good;
      reported = c.records.invariant.reported;
    }

-- a bad record that is reported
pub records-preserved-in_ok-add_bad_record : goal.records-preserved-in_ok-add_bad_record
records-preserved-in_ok-add_bad_record g c =
    let fields = fields_of c.read_record.new.fields in
    let next : ReadRecord g.I.Read.remaining c.records.input c.read_record.new.input true fields = search rules in
    let bad : false ≡ is_some (good_row (g.F.RowFormat.format c.args.layout.now.format) c.args.layout.now.header fields) = sym c.if-good.false ∙ c.in_ok-good.ensures in
    let few : c.records.records < (g.F.RowFormat.format c.args.layout.now.format).most = omega (arith, c.records-test.true, c.most_records-most.ensures, ap (λ (f : g.row.F.Denot). (g.F.RowFormat.format f).most) c.format.ensures) in
    record {
      counted = counted_bad g.I.Read.remaining (layout_by g.F.RowFormat.format c.args.layout.now) c.args.input.now c.records.input c.records.records c.records.bad
          c.records.invariant.counted c.read_record.new.input fields next c.in_ok-read_record.ensures.by few bad;
      reported = first_more c.args.path.now c.records.bad c.args.reasons.now.items c.records.reasons.items c.add_bad_record.new.reasons.items
          (omega (arith, c.if-bad-le-MAX_REASONS.true)) c.records.invariant.reported (one_told c.in_ok-add_bad_record.ensures);
    }

-- and one past the first 100
pub records-preserved : goal.records-preserved
records-preserved g c =
    let fields = fields_of c.read_record.new.fields in
    let next : ReadRecord g.I.Read.remaining c.records.input c.read_record.new.input true fields = search rules in
    let bad : false ≡ is_some (good_row (g.F.RowFormat.format c.args.layout.now.format) c.args.layout.now.header fields) = sym c.if-good.false ∙ c.in_ok-good.ensures in
    let few : c.records.records < (g.F.RowFormat.format c.args.layout.now.format).most = omega (arith, c.records-test.true, c.most_records-most.ensures, ap (λ (f : g.row.F.Denot). (g.F.RowFormat.format f).most) c.format.ensures) in
    record {
      counted = counted_bad g.I.Read.remaining (layout_by g.F.RowFormat.format c.args.layout.now) c.args.input.now c.records.input c.records.records c.records.bad
          c.records.invariant.counted c.read_record.new.input fields next c.in_ok-read_record.ensures.by few bad;
      reported = first_past c.args.path.now c.records.bad c.args.reasons.now.items c.records.reasons.items (omega (arith, c.if-bad-le-MAX_REASONS.false)) c.records.invariant.reported;
    }

pub returns-clause-counted : goal.returns-clause-counted
returns-clause-counted g c =
    let none : ReadRecord g.I.Read.remaining c.records.input c.read_record-2.new.input false (fields_of c.read_record-2.new.fields) = search rules in
    counted_all g.I.Read.remaining (layout_by g.F.RowFormat.format c.args.layout.now) c.args.input.now c.records.input c.records.records c.records.bad
    c.records.invariant.counted c.read_record-2.new.input (fields_of c.read_record-2.new.fields) _ refl refl none

-- and one more than the most
pub returns-then-branch-clause-too_long : goal.returns-then-branch-clause-too_long
returns-then-branch-clause-too_long g c = λ is.
    let many : (g.F.RowFormat.format c.args.layout.now.format).most ≤ c.records.records =
    omega (arith, c.records-test.false, c.most_records-most.ensures, ap (λ (f : g.row.F.Denot). (g.F.RowFormat.format f).most) c.format.ensures) in
    let next : ReadRecord g.I.Read.remaining c.records.input c.read_record-2.new.input true (fields_of c.read_record-2.new.fields) = search rules in
    counted_long g.I.Read.remaining (layout_by g.F.RowFormat.format c.args.layout.now) c.args.input.now c.records.input c.records.records c.records.bad
    c.records.invariant.counted c.read_record-2.new.input (fields_of c.read_record-2.new.fields) many next
