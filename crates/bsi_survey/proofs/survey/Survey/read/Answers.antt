use Rattle.std.proofs.Common.{◌≡◌, ◌++◌, ℕ, List, Vec, Global, true, false, length, map, take, drop, ap, arith, refl, rules, subst, sym, ◌∙◌}
use Rattle.std.proofs.lemmas.List.{length-map}
use Rattle.csv.specs.Reading.{ReadRecord}
use Rattle.csv.specs.Records.{fields_of}
use Rattle.bsi_inference.specs.declared.candidates.Candidates.{Candidates}
use Rattle.bsi_logical.specs.HeaderTitles.{titles_of}
use Rattle.bsi_logical.proofs.Titling.{length-titles_of}
use Rattle.bsi_survey.specs.Choices.{chosen_indexes, wanted_titles}
use Rattle.bsi_survey.specs.Looking.{AreLookedFor}
use Rattle.bsi_survey.specs.Surveys.{HaveObservedAll}
use Rattle.bsi_survey.proofs.Lists.{written}
use Rattle.bsi_survey.proofs.Records.{no_record}
use Rattle.bsi_survey.proofs.Seeing.{all_sees}
use Rattle.bsi_survey.proofs.Surveying.{still_looked, surveyed}
use Rattle.bsi_survey.proofs.survey.Survey.read.Goals as goal

-- the text has no record
pub returns-then-not-branch-clause-empty : goal.returns-then-not-branch-clause-empty
returns-then-not-branch-clause-empty g c = λ is.
    let a = c.record_reader-input.result in
    let b = c.read_next.new.input in
    let fields = fields_of c.read_next.new.fields in
    let none : ReadRecord g.R.Read.remaining a b false fields = search rules in
    no_record g.R.Read.remaining a b c.args.options.now.dialect.delimiter fields c.record_reader-input.ensures.config c.record_reader-input.ensures.start
    (g.R.Read.remaining c.args.reader) c.record_reader-input.ensures.source none

-- the header was read, and then all records
pub returns-clause-surveys : goal.returns-clause-surveys
returns-clause-surveys g c =
    let seen : Vec ℕ Global → List ℕ = λ field. field.items in
    let a = c.record_reader-input.result in
    let b = c.read_next.new.input in
    let header = fields_of c.read_next.new.fields in
    let first = c.in_ok-columns.columns.items in
    let new = c.observe_all.new.columns in
    let words = map seen c.in_ok-words.words.items in
    let read : ReadRecord g.R.Read.remaining a b true header = search rules in
    let chosen : c.in_ok-choice.choice.indexes.items ≡ chosen_indexes (wanted_titles c.args.options.now.columns) 0 (titles_of header) =
    c.in_ok-choice.ensures.indexes
    ∙ ap (λ (ts : List (Vec ℕ Global)). chosen_indexes (wanted_titles c.args.options.now.columns) 0 (map seen ts)) c.deref-3.ensures.value
    ∙ ap (chosen_indexes (wanted_titles c.args.options.now.columns) 0) (c.in_ok-titles.ensures ∙ ap (λ (fs : List (Vec ℕ Global)). titles_of (map seen fs)) c.deref.ensures.value ∙ ap titles_of c.in_ok-header.ensures) in
    let all : HaveObservedAll g.R.Read.remaining c.in_ok-choice.choice words b first new c.new-counts.result c.observe_all.new.counts =
    subst (λ (ws : List (Vec ℕ Global)). HaveObservedAll g.R.Read.remaining c.in_ok-choice.choice (map seen ws) b first new c.new-counts.result c.observe_all.new.counts) c.deref-4.ensures.value
    (subst (λ (cs : List Candidates). HaveObservedAll g.R.Read.remaining c.in_ok-choice.choice (map seen c.deref-4.result.now) b cs new c.new-counts.result c.observe_all.new.counts) c.deref_mut.ensures.value
    c.in_ok-observe_all.ensures.observed) in
    let same : take c.in_ok-columns.columns.len (new ++ drop (length new) first) ≡ new = written first new c.in_ok-columns.columns.len (omega (arith, c.in_ok-columns.columns.ok.0)) all.observed.len in
    surveyed g.R.Read.remaining c.args.options.now _ a b header first words c.new-counts.result (g.R.Read.remaining c.args.reader)
    c.record_reader-input.ensures.config c.record_reader-input.ensures.start c.record_reader-input.ensures.source read c.in_ok-header.ensures c.in_ok-columns.ensures.begun chosen
    c.in_ok-words.ensures c.new-counts.ensures
    (subst (λ (cs : List Candidates). HaveObservedAll g.R.Read.remaining c.in_ok-choice.choice words b first cs c.new-counts.result c.observe_all.new.counts) (sym same) all)

pub returns-clause-looked : goal.returns-clause-looked
returns-clause-looked g c =
    let seen : Vec ℕ Global → List ℕ = λ field. field.items in
    let b = c.read_next.new.input in
    let first = c.in_ok-columns.columns.items in
    let new = c.observe_all.new.columns in
    let words = map seen c.deref-4.result.now in
    let all : HaveObservedAll g.R.Read.remaining c.in_ok-choice.choice words b first new c.new-counts.result c.observe_all.new.counts =
    subst (λ (cs : List Candidates). HaveObservedAll g.R.Read.remaining c.in_ok-choice.choice (map seen c.deref-4.result.now) b cs new c.new-counts.result c.observe_all.new.counts) c.deref_mut.ensures.value
    c.in_ok-observe_all.ensures.observed in
    let same : take c.in_ok-columns.columns.len (new ++ drop (length new) first) ≡ new = written first new c.in_ok-columns.columns.len (omega (arith, c.in_ok-columns.columns.ok.0)) all.observed.len in
    subst (λ (cs : List Candidates). AreLookedFor c.args.options.now.dialect.point c.args.options.now.starts.items cs) (sym same)
    (still_looked g.R.Read.remaining c.in_ok-choice.choice words b first new c.new-counts.result c.observe_all.new.counts all c.args.options.now.dialect.point c.args.options.now.starts.items c.in_ok-columns.ensures.looked)

pub returns-clause-sees : goal.returns-clause-sees
returns-clause-sees g c = all_sees c.args.options.now _ (g.R.Read.remaining c.args.reader) refl (returns-clause-surveys g c)

-- there is a column for each index, and as many titles as fields
pub invariant_of-result : goal.invariant_of-result
invariant_of-result g c =
    let seen : Vec ℕ Global → List ℕ = λ field. field.items in
    let first = c.in_ok-columns.columns.items in
    let new = c.observe_all.new.columns in
    let all : HaveObservedAll g.R.Read.remaining c.in_ok-choice.choice (map seen c.deref-4.result.now) c.read_next.new.input first new c.new-counts.result c.observe_all.new.counts =
    subst (λ (cs : List Candidates). HaveObservedAll g.R.Read.remaining c.in_ok-choice.choice (map seen c.deref-4.result.now) c.read_next.new.input cs new c.new-counts.result c.observe_all.new.counts) c.deref_mut.ensures.value
    c.in_ok-observe_all.ensures.observed in
    let same : take c.in_ok-columns.columns.len (new ++ drop (length new) first) ≡ new = written first new c.in_ok-columns.columns.len (omega (arith, c.in_ok-columns.columns.ok.0)) all.observed.len in
    let titles = ap (λ (ts : List (Vec ℕ Global)). length ts) c.deref-3.ensures.value in
    let fields = ap (λ (fs : List (Vec ℕ Global)). length fs) c.deref.ensures.value in
    let titled : map seen c.in_ok-titles.titles.items ≡ titles_of (map seen c.in_ok-header.header.items) =
    c.in_ok-titles.ensures ∙ ap (λ (fs : List (Vec ℕ Global)). titles_of (map seen fs)) c.deref.ensures.value in
    record {
      chosen = omega (arith, c.in_ok-columns.ensures.len, c.len.ensures, c.in_ok-choice.choice.indexes.ok.0, ap (λ (cs : List Candidates). length cs) same, all.observed.len);
      many = omega (
        arith,
        c.in_ok-choice.ensures.many,
        titles,
        ap (λ (ts : List (List ℕ)). length ts) titled,
        length-map c.in_ok-titles.titles.items seen,
        length-map c.in_ok-header.header.items seen,
        length-titles_of (map seen c.in_ok-header.header.items),
      );
      titled = titled;
    }
