-- Loops over words that write some and pass over the rest.
use Rattle.std.proofs.Common.{◌≡◌, ℕ, ◌+◌, ◌-◌, ◌<◌, ◌≤◌, List, length, take, get_or, zero, suc, inl, inr, ap, sym, ◌∙◌, arith}
use Rattle.std.specs.Prelude.{sum_by, count_ones, slice_set}
use Rattle.std.proofs.lemmas.Bool.{cases_lt}
use Rattle.std.proofs.lemmas.Nat.{ones_le_self}
use Rattle.std.proofs.lemmas.List.{get_or-set_same, get_or-set_other, length-set}
use Rattle.std.proofs.lemmas.List.Sums.{sum_by_more}
use Rattle.bsi_bits.proofs.Filling.{IsFilled}

-- one word is written
pub stored : (f : ℕ → ℕ → ℕ) (i x : ℕ) (old now : List ℕ) → IsFilled f i old now → i < length old → x ≡ f i (get_or now i 0) → IsFilled f (i + 1) old (slice_set now i x)
stored f i x old now filled within is = record {
  long = length-set now i x ∙ filled.long;
  done = λ k below. elim (cases_lt k i) [
    | inl before ↦ get_or-set_other now i k x 0 (omega arith) ∙ filled.done k before
    | inr from ↦
        let here : k ≡ i = omega arith in
        ap (λ j. get_or (slice_set now i x) j 0) here ∙ get_or-set_same now i x 0 (omega (arith, filled.long)) ∙ is
        ∙ ap (f i) (filled.rest i (omega arith)) ∙ ap (λ j. f j (get_or old j 0)) (sym here)
  ];
  rest = λ k past. get_or-set_other now i k x 0 (omega arith) ∙ filled.rest k (omega arith);
}

-- words that stay are passed over
pub passed : (f : ℕ → ℕ → ℕ) (i n m : ℕ) (old now : List ℕ) → IsFilled f i old now → m ≡ i + n → ((k : ℕ) → k < n → f (i + k) (get_or old (i + k) 0) ≡ get_or old (i + k) 0)
    → IsFilled f m old now
passed f i n m old now filled next stay = record {
  long = filled.long;
  done = λ k below. elim (cases_lt k i) [
    | inl before ↦ filled.done k before
    | inr from ↦
        let place : i + (k - i) ≡ k = omega arith in
        filled.rest k from ∙ sym (ap (λ j. f j (get_or old j 0)) (sym place) ∙ stay (k - i) (omega arith) ∙ ap (λ j. get_or old j 0) place)
  ];
  rest = λ k past. filled.rest k (omega arith);
}

-- words that are 0 have no ones
pub none_added : (xs : List ℕ) (i n : ℕ) → i + n ≤ length xs → ((k : ℕ) → i ≤ k → k < i + n → get_or xs k 0 ≡ 0) → sum_by count_ones (take (i + n) xs) ≡ sum_by count_ones (take i xs)
none_added xs i zero within clear = ap (λ m. sum_by count_ones (take m xs)) (omega arith)
none_added xs i (suc n) within clear =
    let next : i + suc n ≡ (i + n) + 1 = omega arith in
    omega (
      arith,
      ap (λ m. sum_by count_ones (take m xs)) next,
      sum_by_more count_ones xs (i + n) 0 (omega arith),
      clear (i + n) (omega arith) (omega arith),
      ones_le_self (get_or xs (i + n) 0),
      none_added xs i n (omega arith) (λ k from below. clear k from (omega arith)),
    )
