-- The numbers of 64 rows, digit by digit from the most significant down.
use Rattle.std.proofs.Common.{◌≡◌, ℕ, ◌+◌, ◌*◌, ◌/◌, ◌<◌, ◌≤◌, ◌^◌, List, Option, None, length, map, get_or, set, length-set, inl, inr, ap, ap₂, sym, ◌∙◌, arith}
use Rattle.std.specs.Prelude.{◌==◌}
use Rattle.std.specs.Int.{bit_at}
use Rattle.std.proofs.Math.Nat.{div-le_self}
use Rattle.std.proofs.lemmas.Bool.{cases_eq}
use Rattle.std.proofs.lemmas.List.{get_or-map, get_or-set_same, get_or-set_other, length-map}
use Rattle.bsi_digits.specs.Digits.{weight, product, digit_of, IsBaseList}
use Rattle.bsi_digits.proofs.CallerLemmas.{high_all, high_digit}
use Rattle.bsi_digits.specs.Comparisons.{number_or_zero}
use Rattle.bsi_kernels.specs.Places.{has_place}

-- the numbers above component i of the rows from `first` on
pub record AreNumbersAbove (bs : List ℕ) (entries : List (Option ℕ)) (first i : ℕ) (numbers : List ℕ) : Type 0 where
  pub long : length numbers ≡ 64
  pub each : (r : ℕ) → r < 64 → first + r < length entries → get_or numbers r 0 ≡ number_or_zero (get_or entries (first + r) None) / weight bs i

-- the first n words are those of the binary places of digits, and the others are 0
pub record AreDigitPlaces (digits : List ℕ) (at n : ℕ) (words : List ℕ) : Type 0 where
  pub long : length words ≡ 64
  pub done : (k r : ℕ) → k < n → r < 64 → 64 * at + r < length digits → (bit_at (get_or words k 0) r == 1) ≡ has_place k (get_or digits (64 * at + r) 0)
  pub rest : (k : ℕ) → n ≤ k → get_or words k 0 ≡ 0

pub places_more : (digits : List ℕ) (at n : ℕ) (words : List ℕ) (word : ℕ) → n < 64
    → ((r : ℕ) → r < 64 → 64 * at + r < length digits → (bit_at word r == 1) ≡ has_place n (get_or digits (64 * at + r) 0))
    → AreDigitPlaces digits at n words → AreDigitPlaces digits at (n + 1) (set words n word)
places_more digits at n words word near is places = record {
  long = length-set words n word ∙ places.long;
  done = λ k r below low row. elim (cases_eq k n) [
    | inl same ↦
        ap (λ i. bit_at (get_or (set words n word) i 0) r == 1) same
        ∙ ap (λ w. bit_at w r == 1) (get_or-set_same words n word 0 (omega (arith, places.long)))
        ∙ is r low row ∙ ap (λ i. has_place i (get_or digits (64 * at + r) 0)) (sym same)
    | inr apart ↦ ap (λ w. bit_at w r == 1) (get_or-set_other words n k word 0 apart) ∙ places.done k r (omega arith) low row
  ];
  rest = λ k past. get_or-set_other words n k word 0 (omega arith) ∙ places.rest k (omega arith);
}

-- one digit more below the number of the digits above it
pub number_above : (bs : List ℕ) → IsBaseList bs → (v j : ℕ) → j < length bs → v < product bs → (above digit base number : ℕ)
    → above ≡ v / weight bs (j + 1) → digit ≡ digit_of bs v j → base ≡ get_or bs j 0
    → (above * base + digit < 2 ^ 64 → number ≡ above * base + digit) → number ≡ v / weight bs j
number_above bs valid v j within small above digit base number above_is digit_is base_is is =
    let total : above * base + digit ≡ v / weight bs j =
    ap₂ (λ a b. a * b + digit) above_is base_is ∙ ap (λ d. v / weight bs (j + 1) * get_or bs j 0 + d) digit_is ∙ sym (high_digit valid v j within) in
    is (omega (arith, total, small, valid.small, div-le_self v (weight bs j))) ∙ total

-- the most significant digit
pub top_digit : (bs : List ℕ) → IsBaseList bs → (v j : ℕ) → j + 1 ≡ length bs → v < product bs → digit_of bs v j ≡ v / weight bs j
top_digit bs valid v j last small =
    let none : v / weight bs (j + 1) ≡ 0 = ap (λ i. v / weight bs i) last ∙ high_all bs v small in
    let alone : 0 * get_or bs j 0 + digit_of bs v j ≡ digit_of bs v j = omega arith in
    sym (high_digit valid v j (omega (arith, last)) ∙ ap (λ q. q * get_or bs j 0 + digit_of bs v j) none ∙ alone)

-- the digit of a row, in the list of a component's digits
pub digit_read : (bs : List ℕ) (entries : List (Option ℕ)) (i r : ℕ) (digits : List ℕ) → r < length entries → digits ≡ map (λ e. digit_of bs (number_or_zero e) i) entries
    → (r < length digits) × (get_or digits r 0 ≡ digit_of bs (number_or_zero (get_or entries r None)) i)
digit_read bs entries i r digits row is =
    (omega (arith, row, ap length is, length-map entries (λ e. digit_of bs (number_or_zero e) i)), ap (λ ds. get_or ds r 0) is ∙ get_or-map (λ e. digit_of bs (number_or_zero e) i) entries r None 0 row)
