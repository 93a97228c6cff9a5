-- Records that the columns observe, one after another, as a reader gives them.
use Rattle.std.proofs.Common.{◌≡◌, ℕ, Bool, true, false, not, cond, if◌then◌else◌, List, [], ◌∷◌, ◌++◌, length, get_or, map, refl, sym, ap, subst, ◌∙◌, arith, IsTrue}
use Rattle.std.proofs.lemmas.List.{append-nil, map-append}
use Rattle.std.proofs.lemmas.List.Elements.{All-append, All-cons, All-nil, filter-append}
use Rattle.std.proofs.lemmas.List.Sums.{sum_by_push}
use Rattle.std.specs.List.{filter}
use Rattle.csv.specs.Reading.{ReadRecord, reader_config}
use Rattle.csv.specs.declared.reader.Reader.{Reader}
use Rattle.bsi_syntax.specs.Bytes.{KnownBytes}
use Rattle.bsi_rows.specs.Fields.{Field}
use Rattle.bsi_inference.specs.declared.candidates.Candidates.{Candidates}
use Rattle.bsi_survey.specs.Choices.{chosen_fields, is_whole}
use Rattle.bsi_survey.specs.Looking.{AcceptsRecord, AreGrown, HasObservedFields}
use Rattle.bsi_survey.specs.Surveys.{column_fields, counted, AcceptsWhole, AreCounted, HaveObserved, HaveObservedAll, HaveObservedEach}
use Rattle.bsi_survey.specs.TextRecords.{HasRead, IsRecordReader}
use Rattle.bsi_survey.specs.declared.choice.Choice.{Choice}
use Rattle.bsi_survey.specs.declared.counts.Counts.{Counts}
use Rattle.bsi_survey.proofs.Growing.{all_same, observed_push, steps_accepted, steps_grown, whole_still}
use Rattle.bsi_survey.proofs.Records.{read_all, read_more, read_none}

-- one more record is counted
abbrev good_one : Choice → List Field → ℕ
good_one choice fields = cond (is_whole choice fields) 1 0

abbrev bad_one : Choice → List Field → ℕ
bad_one choice fields = cond (not (is_whole choice fields)) 1 0

count_more : (choice : Choice) (records : List (List Field)) (fields : List Field) (first before after : Counts) (whole : Bool) → whole ≡ is_whole choice fields
    → AreCounted choice records first before → after ≡ counted before whole → AreCounted choice (records ++ fields ∷ []) first after
count_more choice records fields first before after true is counts next =
    let good = sum_by_push (good_one choice) records fields in
    let bad = sum_by_push (bad_one choice) records fields in
    let one : good_one choice fields ≡ 1 = ap (λ b. cond b 1 0) (sym is) in
    let none : bad_one choice fields ≡ 0 = ap (λ b. cond (not b) 1 0) (sym is) in
    record {
      good = omega (arith, good, one, counts.good, ap (λ (c : Counts). c.good) next);
      bad = omega (arith, bad, none, counts.bad, ap (λ (c : Counts). c.bad) next);
    }
count_more choice records fields first before after false is counts next =
    let good = sum_by_push (good_one choice) records fields in
    let bad = sum_by_push (bad_one choice) records fields in
    let none : good_one choice fields ≡ 0 = ap (λ b. cond b 1 0) (sym is) in
    let one : bad_one choice fields ≡ 1 = ap (λ b. cond (not b) 1 0) (sym is) in
    record {
      good = omega (arith, good, none, counts.good, ap (λ (c : Counts). c.good) next);
      bad = omega (arith, bad, one, counts.bad, ap (λ (c : Counts). c.bad) next);
    }

-- a record was observed, if it is whole
module _ (choice : Choice) (words fields : List Field) (old new : List Candidates) where
  now_grown : (whole : Bool) → HaveObserved choice words fields old new whole → AreGrown old new
  now_grown true observed = steps_grown words (chosen_fields choice fields) old new (observed.steps refl)
  now_grown false observed = subst (λ (cs : List Candidates). AreGrown old cs) (sym (observed.same refl)) (all_same old)

  now_accepted : (whole : Bool) → HaveObserved choice words fields old new whole → whole ≡ true → AcceptsRecord new (chosen_fields choice fields)
  now_accepted whole observed is = steps_accepted words (chosen_fields choice fields) old new (observed.steps is)

-- the fields of a column, with those of one more record
more_fields : (choice : Choice) (c : ℕ) (records : List (List Field)) (fields : List Field) (whole : Bool) → whole ≡ is_whole choice fields
    → column_fields choice c (records ++ fields ∷ []) ≡ column_fields choice c records ++ (if whole then get_or (chosen_fields choice fields) c [] ∷ [] else [])
more_fields choice c records fields true is =
    ap (map (λ (fs : List Field). get_or (chosen_fields choice fs) c [])) (filter-append (is_whole choice) records (fields ∷ []) ∙ ap (λ b. filter (is_whole choice) records ++ cond b (fields ∷ []) []) (sym is))
    ∙ map-append (λ (fs : List Field). get_or (chosen_fields choice fs) c []) (filter (is_whole choice) records) (fields ∷ [])
more_fields choice c records fields false is =
    ap (map (λ (fs : List Field). get_or (chosen_fields choice fs) c [])) (filter-append (is_whole choice) records (fields ∷ []) ∙ ap (λ b. filter (is_whole choice) records ++ cond b (fields ∷ []) []) (sym is))
    ∙ map-append (λ (fs : List Field). get_or (chosen_fields choice fs) c []) (filter (is_whole choice) records) []

module _ (choice : Choice) (words : List Field) (records : List (List Field)) (fields : List Field) (old now new : List Candidates) (each : HaveObservedEach choice words records old now) where
  each_more : (whole : Bool) → whole ≡ is_whole choice fields → HaveObserved choice words fields now new whole → HaveObservedEach choice words (records ++ fields ∷ []) old new
  each_more true is observed =
      let steps = observed.steps refl in
      record {
        len = steps.len ∙ each.len;
        each = λ c d within.
            subst (λ (fs : List Field). HasObservedFields words fs (get_or old c d) (get_or new c d)) (sym (more_fields choice c records fields true is))
            (observed_push words (column_fields choice c records) (get_or (chosen_fields choice fields) c []) (get_or old c d) (get_or now c d) (get_or new c d) (each.each c d within)
            (steps.each c d (omega (arith, each.len, within))));
      }
  each_more false is observed =
      let same = observed.same refl in
      record {
        len = ap length same ∙ each.len;
        each = λ c d within.
            subst (λ (fs : List Field). HasObservedFields words fs (get_or old c d) (get_or new c d))
            (sym (more_fields choice c records fields false is ∙ append-nil (column_fields choice c records)))
            (subst (λ (cs : List Candidates). HasObservedFields words (column_fields choice c records) (get_or old c d) (get_or cs c d)) (sym same) (each.each c d within));
      }

-- the columns have observed the records that a reader gave so far
pub record HaveObservedSome {R : Type 0} (rem : R → KnownBytes) (choice : Choice) (words : List Field) (input now : Reader R) (old new : List Candidates) (before after : Counts) : Type 0 where
  pub records : List (List Field)
  pub read : HasRead rem input now records
  pub observed : HaveObservedEach choice words records old new
  pub accepted : AcceptsWhole choice new records
  pub counts : AreCounted choice records before after
  pub reader : IsRecordReader now
  pub config : reader_config now ≡ reader_config input

pub observed_none : {R : Type 0} (rem : R → KnownBytes) (choice : Choice) (words : List Field) (input : Reader R) (columns : List Candidates) (counts : Counts) → IsRecordReader input
    → HaveObservedSome rem choice words input input columns columns counts counts
observed_none rem choice words input columns counts reader = record {
  records = [];
  read = read_none rem input;
  observed = record { len = refl; each = λ c d within. refl };
  accepted = λ k d within. absurd (omega (arith, within));
  counts = record { good = omega arith; bad = omega arith };
  reader = reader;
  config = refl;
}

module _ {R : Type 0} (rem : R → KnownBytes) (choice : Choice) (words : List Field) (input now next : Reader R) (old new : List Candidates) (before after : Counts)
    (some : HaveObservedSome rem choice words input now old new before after) where
  pub observed_more : (fields : List Field) (newer : List Candidates) (whole : Bool) (later : Counts) → ReadRecord rem now next true fields → IsRecordReader next
      → HaveObserved choice words fields new newer whole → later ≡ counted after whole → HaveObservedSome rem choice words input next old newer before later
  observed_more fields newer whole later read reader observed counts =
      let grown = now_grown choice words fields new newer whole observed in
      let is : whole ≡ is_whole choice fields = observed.whole in
      let Accepted : List Field → Type 0 = λ f. IsTrue (is_whole choice f) → AcceptsRecord newer (chosen_fields choice f) in
      record {
        records = some.records ++ fields ∷ [];
        read = read_more rem input now next some.records fields some.config some.read read;
        observed = each_more choice words some.records fields old new newer some.observed whole is observed;
        accepted = All-append Accepted some.records (fields ∷ []) (whole_still choice new newer grown some.records some.accepted)
            (All-cons Accepted fields [] (λ yes. now_accepted choice words fields new newer whole observed (is ∙ yes)) (All-nil Accepted));
        counts = count_more choice some.records fields before after later whole is some.counts counts;
        reader = reader;
        config = read.2 ∙ some.config;
      }

  pub observed_all : (fields : List Field) → ReadRecord rem now next false fields → HaveObservedAll rem choice words input old new before after
  observed_all fields read = record {
    records = some.records;
    left = read_all rem input now next some.records fields some.config some.read read;
    observed = some.observed;
    accepted = some.accepted;
    counts = some.counts;
  }
