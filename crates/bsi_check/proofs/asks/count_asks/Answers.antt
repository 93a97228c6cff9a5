use Rattle.std.proofs.Common.{true, false, rules, arith, subst, Bool}
use Rattle.csv.specs.Reading.{ReadRecord}
use Rattle.csv.specs.Records.{fields_of}
use Rattle.bsi_check.specs.Checks.{IsAskVerdict}
use Rattle.bsi_check.proofs.Asking.{asks_all, asks_bad, asks_good, asks_none}
use Rattle.bsi_check.proofs.Telling.{first_more, first_none, first_past}
use Rattle.bsi_check.proofs.asks.count_asks.Goals as goal

pub records-init : goal.records-init
records-init g c = record {
  asked = λ bytes left. asks_none c.args.schema.now bytes g.A.Read.remaining c.args.input.now c.requires.start left;
  plain = c.requires.plain;
  few = omega arith;
  fewer = omega arith;
  reported = first_none c.args.path.now c.args.reasons.now.items;
}

pub returns-then-not-branch-clause-counted : goal.returns-then-not-branch-clause-counted
returns-then-not-branch-clause-counted g c = λ bytes left.
    let fields = fields_of c.read_next.new.fields in
    let none : ReadRecord g.A.Read.remaining c.records.input c.read_next.new.input false fields = search rules in
    asks_all c.args.schema.now bytes g.A.Read.remaining c.records.input c.records.records c.records.bad (c.records.invariant.asked bytes left) c.records.invariant.plain
    c.read_next.new.input fields none c.records.invariant.few

pub records-preserved-then-asks : goal.records-preserved-then-asks
records-preserved-then-asks g c =
    let fields = fields_of c.read_next.new.fields in
    let next : ReadRecord g.A.Read.remaining c.records.input c.read_next.new.input true fields = search rules in
    let asked = subst (λ (b : Bool). IsAskVerdict c.args.schema.now fields b) c.if-asks.true c.in_ok-asks.ensures in
    record {
      asked = λ bytes left.
          asks_good c.args.schema.now bytes g.A.Read.remaining c.records.input c.records.records c.records.bad (c.records.invariant.asked bytes left) c.records.invariant.plain
          c.read_next.new.input fields next asked;
      plain = c.in_ok-read_next.ensures.plain;
      few = omega (arith, c.records-test.true);
      fewer = omega (arith, c.records.invariant.fewer);
      reported = c.records.invariant.reported;
    }

-- one that is no question, and is reported
pub records-preserved-in_ok-add_no_ask : goal.records-preserved-in_ok-add_no_ask
records-preserved-in_ok-add_no_ask g c =
    let fields = fields_of c.read_next.new.fields in
    let next : ReadRecord g.A.Read.remaining c.records.input c.read_next.new.input true fields = search rules in
    let none = subst (λ (b : Bool). IsAskVerdict c.args.schema.now fields b) c.if-asks.false c.in_ok-asks.ensures in
    record {
      asked = λ bytes left.
          asks_bad c.args.schema.now bytes g.A.Read.remaining c.records.input c.records.records c.records.bad (c.records.invariant.asked bytes left) c.records.invariant.plain
          c.read_next.new.input fields next none;
      plain = c.in_ok-read_next.ensures.plain;
      few = omega (arith, c.records-test.true);
      fewer = omega (arith, c.records.invariant.fewer);
      reported = first_more c.args.path.now c.records.bad c.args.reasons.now.items c.records.reasons.items c.add_no_ask.new.reasons.items
          (omega (arith, c.if-bad-le-MAX_REASONS.true)) c.records.invariant.reported c.in_ok-add_no_ask.ensures;
    }

-- and one past the first 100
pub records-preserved : goal.records-preserved
records-preserved g c =
    let fields = fields_of c.read_next.new.fields in
    let next : ReadRecord g.A.Read.remaining c.records.input c.read_next.new.input true fields = search rules in
    let none = subst (λ (b : Bool). IsAskVerdict c.args.schema.now fields b) c.if-asks.false c.in_ok-asks.ensures in
    record {
      asked = λ bytes left.
          asks_bad c.args.schema.now bytes g.A.Read.remaining c.records.input c.records.records c.records.bad (c.records.invariant.asked bytes left) c.records.invariant.plain
          c.read_next.new.input fields next none;
      plain = c.in_ok-read_next.ensures.plain;
      few = omega (arith, c.records-test.true);
      fewer = omega (arith, c.records.invariant.fewer);
      reported = first_past c.args.path.now c.records.bad c.args.reasons.now.items c.records.reasons.items (omega (arith, c.if-bad-le-MAX_REASONS.false)) c.records.invariant.reported;
    }

pub returns-clause-counted : goal.returns-clause-counted
returns-clause-counted g c = λ bytes left.
    let fields = fields_of c.read_next-2.new.fields in
    let none : ReadRecord g.A.Read.remaining c.records.input c.read_next-2.new.input false fields = search rules in
    asks_all c.args.schema.now bytes g.A.Read.remaining c.records.input c.records.records c.records.bad (c.records.invariant.asked bytes left) c.records.invariant.plain
    c.read_next-2.new.input fields none c.records.invariant.few
