-- A change of one word changes the checksum by lanes.
use Rattle.std.proofs.Common.{◌≡◌, ℕ, suc, ◌+◌, ◌*◌, ◌^◌, ◌<◌, ◌≤◌, List, [], ◌∷◌, ◌++◌, length, get_or, drop, sym, ap, ◌∙◌, arith, length-append, drop-cons}
use Rattle.std.proofs.lemmas.List.{drop_all}
use Rattle.bsi_segments.specs.Lanes.{lanes_from, lanes_of}
use Rattle.bsi_segments.specs.Segments.{checksum_from, checksum_step}
use Rattle.bsi_segments.proofs.OneWord.{sum_same, word_same}
use Rattle.bsi_segments.proofs.Unique.{step_fits, sum_fits}

-- ---- a word more

pub lanes_next : (a b c d i : ℕ) (words : List ℕ) → i < length words → lanes_from b c d (checksum_step a (get_or words i 0)) (drop (i + 1) words) ≡ lanes_from a b c d (drop i words)
unfolding lanes_from
lanes_next a b c d i words within =
    let next : drop i words ≡ get_or words i 0 ∷ drop (suc i) words = drop-cons words i 0 within in
    let same : i + 1 ≡ suc i = omega arith in
    ap (λ k. lanes_from b c d (checksum_step a (get_or words i 0)) (drop k words)) same ∙ sym (ap (lanes_from a b c d) next)

pub lanes_four : (a b c d i : ℕ) (words : List ℕ) → 4 * i + 3 < length words
    → lanes_from (checksum_step a (get_or words (4 * i) 0)) (checksum_step b (get_or words (4 * i + 1) 0)) (checksum_step c (get_or words (4 * i + 2) 0)) (checksum_step d (get_or words (4 * i + 3) 0)) (drop (4 * (i + 1)) words)
    ≡ lanes_from a b c d (drop (4 * i) words)
lanes_four a b c d i words within =
    let w0 = get_or words (4 * i) 0 in
    let w1 = get_or words (4 * i + 1) 0 in
    let w2 = get_or words (4 * i + 2) 0 in
    let w3 = get_or words (4 * i + 3) 0 in
    let e2 : 4 * i + 1 + 1 ≡ 4 * i + 2 = omega arith in
    let e3 : 4 * i + 2 + 1 ≡ 4 * i + 3 = omega arith in
    let e4 : 4 * (i + 1) ≡ 4 * i + 3 + 1 = omega arith in
    ap (λ k. lanes_from (checksum_step a w0) (checksum_step b w1) (checksum_step c w2) (checksum_step d w3) (drop k words)) e4
    ∙ lanes_next d (checksum_step a w0) (checksum_step b w1) (checksum_step c w2) (4 * i + 3) words within
    ∙ ap (λ k. lanes_from d (checksum_step a w0) (checksum_step b w1) (checksum_step c w2) (drop k words)) (sym e3)
    ∙ lanes_next c d (checksum_step a w0) (checksum_step b w1) (4 * i + 2) words (omega arith)
    ∙ ap (λ k. lanes_from c d (checksum_step a w0) (checksum_step b w1) (drop k words)) (sym e2)
    ∙ lanes_next b c d (checksum_step a w0) (4 * i + 1) words (omega arith)
    ∙ lanes_next a b c d (4 * i) words (omega arith)

pub lanes_end : (a b c d i : ℕ) (words : List ℕ) → length words ≤ i → checksum_step (checksum_step (checksum_step a b) c) d ≡ lanes_from a b c d (drop i words)
unfolding lanes_from checksum_from
lanes_end a b c d i words all = sym (ap (lanes_from a b c d) (drop_all i words all))

-- ---- a checksum by lanes is a number of 64 bits

lanes_fit : (a b c d : ℕ) (words : List ℕ) → a < 2 ^ 64 → b < 2 ^ 64 → c < 2 ^ 64 → d < 2 ^ 64 → lanes_from a b c d words < 2 ^ 64
unfolding lanes_from
lanes_fit a b c d [] fa fb fc fd = sum_fits a (b ∷ c ∷ d ∷ []) fa
lanes_fit a b c d (w ∷ words) fa fb fc fd = lanes_fit b c d (checksum_step a w) words fb fc fd (step_fits a w)

pub lanes_of-fits : (words : List ℕ) → length words < 2 ^ 64 → lanes_of words < 2 ^ 64
lanes_of-fits words few = lanes_fit (length words) 1 2 3 words few (omega arith) (omega arith) (omega arith)

-- ---- one lane that differs

abbrev Fit : List ℕ → Type 0
Fit words = (k : ℕ) → get_or words k 0 < 2 ^ 64

-- where one lane alone differs, so does the checksum
record IsOneToOne (words : List ℕ) : Type 0 where
  first : (s t b c d : ℕ) → s < 2 ^ 64 → t < 2 ^ 64 → b < 2 ^ 64 → c < 2 ^ 64 → d < 2 ^ 64 → lanes_from s b c d words ≡ lanes_from t b c d words → s ≡ t
  second : (a s t c d : ℕ) → a < 2 ^ 64 → s < 2 ^ 64 → t < 2 ^ 64 → c < 2 ^ 64 → d < 2 ^ 64 → lanes_from a s c d words ≡ lanes_from a t c d words → s ≡ t
  third : (a b s t d : ℕ) → a < 2 ^ 64 → b < 2 ^ 64 → s < 2 ^ 64 → t < 2 ^ 64 → d < 2 ^ 64 → lanes_from a b s d words ≡ lanes_from a b t d words → s ≡ t
  fourth : (a b c s t : ℕ) → a < 2 ^ 64 → b < 2 ^ 64 → c < 2 ^ 64 → s < 2 ^ 64 → t < 2 ^ 64 → lanes_from a b c s words ≡ lanes_from a b c t words → s ≡ t

one_to_one : (words : List ℕ) → Fit words → IsOneToOne words
unfolding lanes_from checksum_from
one_to_one [] fits = record {
  first = λ s t b c d fs ft fb fc fd same.
      sum_same s t b fs ft fb
      (sum_same (checksum_step s b) (checksum_step t b) c (step_fits s b) (step_fits t b) fc
      (sum_same (checksum_step (checksum_step s b) c) (checksum_step (checksum_step t b) c) d (step_fits (checksum_step s b) c) (step_fits (checksum_step t b) c) fd same));
  second = λ a s t c d fa fs ft fc fd same.
      word_same a s t fa fs ft
      (sum_same (checksum_step a s) (checksum_step a t) c (step_fits a s) (step_fits a t) fc
      (sum_same (checksum_step (checksum_step a s) c) (checksum_step (checksum_step a t) c) d (step_fits (checksum_step a s) c) (step_fits (checksum_step a t) c) fd same));
  third = λ a b s t d fa fb fs ft fd same.
      word_same (checksum_step a b) s t (step_fits a b) fs ft
      (sum_same (checksum_step (checksum_step a b) s) (checksum_step (checksum_step a b) t) d (step_fits (checksum_step a b) s) (step_fits (checksum_step a b) t) fd same);
  fourth = λ a b c s t fa fb fc fs ft same. word_same (checksum_step (checksum_step a b) c) s t (step_fits (checksum_step a b) c) fs ft same;
}
one_to_one (w ∷ words) fits =
    let rest : IsOneToOne words = one_to_one words (λ k. fits (suc k)) in
    let small : w < 2 ^ 64 = fits 0 in record {
      first = λ s t b c d fs ft fb fc fd same.
          sum_same s t w fs ft small (rest.fourth b c d (checksum_step s w) (checksum_step t w) fb fc fd (step_fits s w) (step_fits t w) same);
      second = λ a s t c d fa fs ft fc fd same. rest.first s t c d (checksum_step a w) fs ft fc fd (step_fits a w) same;
      third = λ a b s t d fa fb fs ft fd same. rest.second b s t d (checksum_step a w) fb fs ft fd (step_fits a w) same;
      fourth = λ a b c s t fa fb fc fs ft same. rest.third b c s t (checksum_step a w) fb fc fs ft (step_fits a w) same;
    }

one_word_known_by_lane : (front back : List ℕ) (a b c d w v : ℕ) → a < 2 ^ 64 → b < 2 ^ 64 → c < 2 ^ 64 → d < 2 ^ 64 → w < 2 ^ 64 → v < 2 ^ 64 → Fit back
    → lanes_from a b c d (front ++ w ∷ back) ≡ lanes_from a b c d (front ++ v ∷ back) → w ≡ v
unfolding lanes_from
one_word_known_by_lane [] back a b c d w v fa fb fc fd fw fv fits same =
    word_same a w v fa fw fv ((one_to_one back fits).fourth b c d (checksum_step a w) (checksum_step a v) fb fc fd (step_fits a w) (step_fits a v) same)
one_word_known_by_lane (x ∷ front) back a b c d w v fa fb fc fd fw fv fits same =
    one_word_known_by_lane front back b c d (checksum_step a x) w v fb fc fd (step_fits a x) fw fv fits same

pub one_word_known_by_lanes : (front back : List ℕ) (w v : ℕ) → length (front ++ w ∷ back) < 2 ^ 64 → w < 2 ^ 64 → v < 2 ^ 64 → Fit back
    → lanes_of (front ++ w ∷ back) ≡ lanes_of (front ++ v ∷ back) → w ≡ v
one_word_known_by_lanes front back w v few small below fits same =
    let n = length (front ++ w ∷ back) in
    let long : length (front ++ v ∷ back) ≡ n = length-append front (v ∷ back) ∙ sym (length-append front (w ∷ back)) in
    one_word_known_by_lane front back n 1 2 3 w v few (omega arith) (omega arith) (omega arith) small below fits
    (same ∙ ap (λ m. lanes_from m 1 2 3 (front ++ v ∷ back)) long)
