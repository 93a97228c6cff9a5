-- What the bits of a span of words say of the rows that it stands for.
use Rattle.std.proofs.Common.{◌≡◌, ℕ, ◌+◌, ◌-◌, ◌*◌, ◌/◌, ◌%◌, ◌^◌, ◌<◌, Bool, true, false, List, ◌++◌, length, get_or, map, refl, sym, ap, ap₂, ◌∙◌, inl, inr, arith}
use Rattle.std.specs.Prelude.{Option, None, not, is_some, ◌&&◌, ◌||◌, ◌==◌, nat_eq, bit_and, All}
use Rattle.std.specs.Int.{bit_at, bit_not, w64}
use Rattle.std.specs.Simd.Lanes.{zip2}
use Rattle.std.proofs.lemmas.List.{length-map, get_or-map, get_or_append_left, get_or-append_right, length-append}
use Rattle.std.proofs.lemmas.Bool.{cases_lt}
use Rattle.std.proofs.lemmas.Bool.Decides.{nat_tests}
use Rattle.bsi_bits.specs.BitList.{without}
use Rattle.bsi_bits.specs.Packed.{bit_of}
use Rattle.bsi_bits.proofs.Logic.{and_not_bitwise}
use Rattle.bsi_digits.specs.Digits.{product, weight, digit_of, IsBaseList}
use Rattle.bsi_digits.proofs.CallerLemmas.{low_all}
use Rattle.bsi_slices.specs.declared.decision.Relation.{Relation}
use Rattle.bsi_digits.specs.Comparisons.{number_or_zero}
use Rattle.bsi_slices.specs.Decisions.{as_expected, relates}
use Rattle.bsi_columns.specs.DigitTests.{relates_step, answers}
use Rattle.bsi_columns.proofs.WordSpans.{zipped_bit}
use Rattle.bsi_columns.proofs.Answering.{holds_more, nothing_below, cut_answer}

-- each bit says whether the digits below component i pass the test; below the first there are none, whatever the bits are
pub record IsNarrowed (bs : List ℕ) (relation : Relation) (n : ℕ) (es : List (Option ℕ)) (at i : ℕ) (span : List ℕ) : Type 0 where
  pub bits : (p : ℕ) → p < 64 * length span → 64 * at + p < length es
      → (nat_eq i 0 || bit_of span p) ≡ relates relation (number_or_zero (get_or es (64 * at + p) None) % weight bs i) (n % weight bs i)

after_first : (i : ℕ) (b : Bool) → 0 < i → (nat_eq i 0 || b) ≡ b
after_first i b some = grind (arith, nat_tests)

module _ {bs : List ℕ} (valid : IsBaseList bs) (relation : Relation) (n : ℕ) (es : List (Option ℕ)) (at : ℕ) where
  pub narrowed_start : (span : List ℕ) → IsNarrowed bs relation n es at 0 span
  narrowed_start span =
      let none : (x : ℕ) → 0 ≡ x % 1 = λ x. omega arith in
      record {
        bits = λ p below row.
            sym (nothing_below relation) ∙ ap₂ (relates relation) (none (number_or_zero (get_or es (64 * at + p) None))) (none n);
      }

  pub narrowed_more : (i d : ℕ) (span after ds : List ℕ) → i < length bs → d ≡ digit_of bs n i → ds ≡ map (λ e. digit_of bs (number_or_zero e) i) es
      → length after ≡ length span → IsNarrowed bs relation n es at i span
      → ((p : ℕ) → p < 64 * length span → 64 * at + p < length ds → bit_of after p ≡ relates_step relation (nat_eq i 0 || bit_of span p) (get_or ds (64 * at + p) 0) d)
      → IsNarrowed bs relation n es at (i + 1) after
  narrowed_more i d span after ds within d_is ds_is same before step = record {
    bits = λ p below row.
        let rows : length ds ≡ length es = ap length ds_is ∙ length-map es (λ (e : Option ℕ). digit_of bs (number_or_zero e) i) in
        let in_span : p < 64 * length span = omega (arith, same) in
        let number : ℕ = number_or_zero (get_or es (64 * at + p) None) in
        let digit : get_or ds (64 * at + p) 0 ≡ digit_of bs number i =
        ap (λ xs. get_or xs (64 * at + p) 0) ds_is ∙ get_or-map (λ (e : Option ℕ). digit_of bs (number_or_zero e) i) es (64 * at + p) None 0 row in
        after_first (i + 1) (bit_of after p) (omega arith)
        ∙ step p in_span (omega (arith, rows))
        ∙ ap (λ low. relates_step relation low (get_or ds (64 * at + p) 0) d) (before.bits p in_span row)
        ∙ ap₂ (relates_step relation (relates relation (number % weight bs i) (n % weight bs i))) digit d_is
        ∙ sym (holds_more valid relation number n i within);
  }

  pub narrowed_all : (span : List ℕ) → n < product bs → All (λ e. number_or_zero e < product bs) es → IsNarrowed bs relation n es at (length bs) span
      → (p : ℕ) → p < 64 * length span → 64 * at + p < length es → bit_of span p ≡ relates relation (number_or_zero (get_or es (64 * at + p) None)) n
  narrowed_all span small all narrowed p below row =
      sym (after_first (length bs) (bit_of span p) valid.some) ∙ narrowed.bits p below row ∙ ap₂ (relates relation) (low_all bs (number_or_zero (get_or es (64 * at + p) None)) (all (64 * at + p) None row)) (low_all bs n small)

-- the words that begin a list, and those appended to it
module _ (P : ℕ → Bool) (n at : ℕ) (words span : List ℕ) (long : length words ≡ at) where
  pub appended_bits : ((p : ℕ) → p < 64 * length words → p < n → bit_of words p ≡ P p)
      → ((q : ℕ) → q < 64 * length span → 64 * at + q < n → bit_of span q ≡ P (64 * at + q))
      → (p : ℕ) → p < 64 * length (words ++ span) → p < n → bit_of (words ++ span) p ≡ P p
  appended_bits before here p below row = elim (cases_lt p (64 * length words)) [
    | inl first ↦ ap (λ w. bit_at w (p % 64) == 1) (get_or_append_left words span 0 (p / 64) (omega arith)) ∙ before p first row
    | inr from ↦
        let q : ℕ = p - 64 * at in
        let place : 64 * at + q ≡ p = omega arith in
        let in_span : q < 64 * length span = omega (arith, length-append words span) in
        let word : p / 64 ≡ length words + q / 64 = omega arith in
        let bit : p % 64 ≡ q % 64 = omega arith in
        let back : length words + q / 64 - length words ≡ q / 64 = omega arith in
        ap₂ (λ j r. bit_at (get_or (words ++ span) j 0) r == 1) word bit
        ∙ ap (λ w. bit_at w (q % 64) == 1) (get_or-append_right words span (length words) (length words + q / 64) 0 refl (omega arith) ∙ ap (λ j. get_or span j 0) back)
        ∙ here q in_span (omega arith) ∙ ap P place
  ]

-- a row of a span, cut with the not-null bitmap
pub row_answer : (test : ℕ → Bool) (expected : Bool) (es : List (Option ℕ)) (r : ℕ) (selection there : Bool) → r < length es
    → selection ≡ as_expected expected (test (number_or_zero (get_or es r None))) → there ≡ get_or (map is_some es) r false
    → (selection && there) ≡ get_or (map (answers test expected) es) r false
row_answer test expected es r selection there row selection_is there_is =
    ap₂ ◌&&◌ selection_is (there_is ∙ get_or-map is_some es r None false row)
    ∙ cut_answer test expected (get_or es r None)
    ∙ sym (get_or-map (answers test expected) es r None false row)

-- an answer that is turned where the rows that fail are wanted
pub answer_turned : (expected bit selection : Bool) → not expected ≡ true → bit ≡ not selection → bit ≡ as_expected expected selection
answer_turned true bit selection failing turned = cc
answer_turned false bit selection failing turned = turned

pub answer_narrowed : (expected bit selection : Bool) → not expected ≡ false → bit ≡ selection → bit ≡ as_expected expected selection
answer_narrowed true bit selection passing decomposes = decomposes
answer_narrowed false bit selection passing decomposes = cc

-- the rows of a span that are not in another
pub and_not_bit : (xs ys : List ℕ) → length xs ≡ length ys → ((k : ℕ) → get_or ys k 0 < 2 ^ 64) → (p : ℕ) → p < 64 * length xs
    → bit_of (zip2 (λ x y. bit_and x (bit_not w64 y)) xs ys) p ≡ (bit_of xs p && not (bit_of ys p))
and_not_bit xs ys same fit = zipped_bit (λ y. y < 2 ^ 64) (λ x y. bit_and x (bit_not w64 y)) without and_not_bitwise xs ys same fit
