use Rattle.std.proofs.Common.{◌≡◌, ◌++◌, ℕ, List, Vec, Global, true, length, map, take, drop, ap, arith, refl, rules, subst, sym, ◌∙◌}
use Rattle.csv.specs.Reading.{ReadRecord}
use Rattle.csv.specs.Records.{fields_of}
use Rattle.bsi_inference.specs.declared.candidates.Candidates.{Candidates}
use Rattle.bsi_rows.specs.Fields.{Field}
use Rattle.bsi_survey.specs.Looking.{AreGrown}
use Rattle.bsi_survey.specs.Surveys.{HaveObservedAll}
use Rattle.bsi_survey.proofs.Growing.{all_looked}
use Rattle.bsi_survey.proofs.Lists.{written}
use Rattle.bsi_survey.proofs.Seeing.{sees_more, sees_still}
use Rattle.bsi_survey.proofs.Surveying.{each_grown}
use Rattle.bsi_survey.proofs.survey.Survey.read_more.Goals as goal

-- the text has another header
pub returns-then-not-are_same_fields-clause-preserved : goal.returns-then-not-are_same_fields-clause-preserved
returns-then-not-are_same_fields-clause-preserved g c = λ bytes sees. record { records = sees.records; all = sees.all; accepted = sees.accepted }

pub returns-then-not-are_same_fields-clause-looked : goal.returns-then-not-are_same_fields-clause-looked
returns-then-not-are_same_fields-clause-looked g c = λ texts looks. looks

-- all records were seen
pub returns-clause-sees : goal.returns-clause-sees
returns-clause-sees g c = λ _.
    let seen : Vec ℕ Global → Field = λ field. field.items in
    let rem = g.R.Read.remaining in
    let a = c.record_reader-input.result in
    let b = c.read_next.new.input in
    let header = fields_of c.read_next.new.fields in
    let old = c.args.self.now in
    let first = old.columns.items in
    let new = c.observe_all.new.columns in
    let words = map seen c.deref-3.result.now in
    let read : ReadRecord rem a b true header = search rules in
    let all : HaveObservedAll rem old.choice words b first new old.counts c.observe_all.new.counts =
    subst (λ (cs : List Candidates). HaveObservedAll rem old.choice words b cs new old.counts c.observe_all.new.counts) c.deref_mut.ensures.value c.in_ok-observe_all.ensures.observed in
    let same : take old.columns.len (new ++ drop (length new) first) ≡ new = written first new old.columns.len (omega (arith, old.columns.ok.0)) all.observed.len in
    let headers : map seen old.header.items ≡ header =
    sym (ap (λ (fs : List (Vec ℕ Global)). map seen fs) c.deref.ensures.value) ∙ sym (c.are_same_fields.ensures.same c.if-not-are_same_fields.false)
    ∙ ap (λ (fs : List (Vec ℕ Global)). map seen fs) c.deref-2.ensures.value ∙ c.in_ok-header.ensures in
    sees_more rem _ a b header first words old.counts c.observe_all.new.counts (rem c.args.reader) c.record_reader-input.ensures.config c.record_reader-input.ensures.start
    c.record_reader-input.ensures.source read headers
    (subst (λ (cs : List Candidates). HaveObservedAll rem old.choice words b first cs old.counts c.observe_all.new.counts) (sym same) all)

pub returns-clause-preserved : goal.returns-clause-preserved
returns-clause-preserved g c = λ bytes sees.
    let seen : Vec ℕ Global → Field = λ field. field.items in
    let rem = g.R.Read.remaining in
    let b = c.read_next.new.input in
    let old = c.args.self.now in
    let first = old.columns.items in
    let new = c.observe_all.new.columns in
    let words = map seen c.deref-3.result.now in
    let all : HaveObservedAll rem old.choice words b first new old.counts c.observe_all.new.counts =
    subst (λ (cs : List Candidates). HaveObservedAll rem old.choice words b cs new old.counts c.observe_all.new.counts) c.deref_mut.ensures.value c.in_ok-observe_all.ensures.observed in
    let same : take old.columns.len (new ++ drop (length new) first) ≡ new = written first new old.columns.len (omega (arith, old.columns.ok.0)) all.observed.len in
    sees_still old _ bytes refl refl refl (subst (AreGrown first) (sym same) (each_grown old.choice words all.records first new all.observed)) sees

pub returns-clause-looked : goal.returns-clause-looked
returns-clause-looked g c = λ texts looks.
    let seen : Vec ℕ Global → Field = λ field. field.items in
    let rem = g.R.Read.remaining in
    let b = c.read_next.new.input in
    let old = c.args.self.now in
    let first = old.columns.items in
    let new = c.observe_all.new.columns in
    let words = map seen c.deref-3.result.now in
    let all : HaveObservedAll rem old.choice words b first new old.counts c.observe_all.new.counts =
    subst (λ (cs : List Candidates). HaveObservedAll rem old.choice words b cs new old.counts c.observe_all.new.counts) c.deref_mut.ensures.value c.in_ok-observe_all.ensures.observed in
    let same : take old.columns.len (new ++ drop (length new) first) ≡ new = written first new old.columns.len (omega (arith, old.columns.ok.0)) all.observed.len in
    let grown : AreGrown first (take old.columns.len (new ++ drop (length new) first)) = subst (AreGrown first) (sym same) (each_grown old.choice words all.records first new all.observed) in
    all_looked first _ grown old.dialect.point texts looks
