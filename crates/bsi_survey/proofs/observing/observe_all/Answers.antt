use Rattle.std.proofs.Common.{Vec, Global, ℕ, true, false, map, arith, rules}
use Rattle.csv.specs.Reading.{ReadRecord}
use Rattle.csv.specs.Records.{fields_of}
use Rattle.bsi_survey.proofs.Readings.{observed_all, observed_more, observed_none}
use Rattle.bsi_survey.proofs.observing.observe_all.Goals as goal

pub records-init : goal.records-init
records-init g c =
    observed_none g.R.Read.remaining c.args.choice.now (map (λ (w : Vec ℕ Global). w.items) c.args.words.now) c.args.input.now c.args.columns.now c.args.counts.now c.requires.reader

-- no record is left
pub returns-then-not-branch-clause-observed : goal.returns-then-not-branch-clause-observed
returns-then-not-branch-clause-observed g c =
    let fields = fields_of c.read_next.new.fields in
    let none : ReadRecord g.R.Read.remaining c.records.input c.read_next.new.input false fields = search rules in
    observed_all g.R.Read.remaining c.args.choice.now (map (λ (w : Vec ℕ Global). w.items) c.args.words.now) c.args.input.now c.records.input c.read_next.new.input
    c.args.columns.now c.records.columns c.args.counts.now c.records.counts c.records.invariant fields none

-- one record more
pub records-preserved : goal.records-preserved
records-preserved g c =
    let fields = fields_of c.read_next.new.fields in
    let reads : ReadRecord g.R.Read.remaining c.records.input c.read_next.new.input true fields = search rules in
    observed_more g.R.Read.remaining c.args.choice.now (map (λ (w : Vec ℕ Global). w.items) c.args.words.now) c.args.input.now c.records.input c.read_next.new.input
    c.args.columns.now c.records.columns c.args.counts.now c.records.counts c.records.invariant fields c.observe_record.new.columns c.in_ok-whole.whole c.count.new.self
    reads c.in_ok-read_next.ensures.reader c.in_ok-whole.ensures c.in_ok-count.ensures.counted

-- the columns stay as many
pub observe_record-requires : goal.observe_record-requires
observe_record-requires g c = omega (arith, c.requires.chosen, c.records.invariant.observed.len)
