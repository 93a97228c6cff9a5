-- The sum of the digits of a selection, which grows by those in some words of it.
use Rattle.std.proofs.Common.{◌≡◌, ℕ, ◌+◌, ◌-◌, ◌*◌, ◌≤◌, Bool, List, [], length, get_or, take, inl, inr, ap, ap₂, sym, ◌∙◌, refl, arith}
use Rattle.std.specs.Prelude.{◌&&◌, count_by, min, sum}
use Rattle.std.specs.List.{items_where_true}
use Rattle.std.specs.Simd.Lanes.{zip2}
use Rattle.std.proofs.lemmas.Bool.{cases_lt}
use Rattle.std.proofs.lemmas.List.{get_or_past}
use Rattle.std.proofs.lemmas.List.Sums.{count_by-le-length, sum_by-append}
use Rattle.std.proofs.lemmas.Simd.{get_or-chunk, length-zip2}
use Rattle.bsi_bits.specs.BitList.{in_words}
use Rattle.bsi_bits.proofs.InWords.{selected_all, selected_more, length-in_words}

-- the sum of the digits in the words before the m-th
pub sum_before : List Bool → List ℕ → ℕ → ℕ
sum_before selection ds m = sum (items_where_true (take (64 * m) selection) (take (64 * m) ds))

module _ (selection : List Bool) (ds : List ℕ) (same : length ds ≡ length selection) where
  pub sum_none : 0 ≡ sum_before selection ds 0
  unfolding sum_before
  sum_none = refl

  -- the words from the i-th on and before the m-th
  pub sum_more : (i m total more : ℕ) → i ≤ m → total ≡ sum_before selection ds i → more ≡ sum (items_where_true (in_words i m selection) (in_words i m ds)) → total + more ≡ sum_before selection ds m
  unfolding sum_before
  sum_more i m total more forward total_is more_is =
      ap₂ ◌+◌ total_is more_is
      ∙ sym (sum_by-append (λ n. n) (items_where_true (take (64 * i) selection) (take (64 * i) ds)) (items_where_true (in_words i m selection) (in_words i m ds)))
      ∙ ap sum (sym (selected_more selection ds same i m forward))

  -- words without a row add nothing, and the words behind them are added
  pub sum_on : (i m n total more : ℕ) → i ≤ m → m ≤ n → total ≡ sum_before selection ds i → items_where_true (in_words i m selection) (in_words i m ds) ≡ []
      → more ≡ sum (items_where_true (in_words m n selection) (in_words m n ds)) → total + more ≡ sum_before selection ds n
  sum_on i m n total more skipped forward total_is none more_is =
      let here : total + 0 ≡ sum_before selection ds m = sum_more i m total 0 skipped total_is (ap sum (sym none)) in
      let same : total ≡ total + 0 = omega arith in
      sum_more m n total more forward (same ∙ here) more_is

  -- no word is left
  pub sum_all : (m total : ℕ) → length selection ≤ 64 * m → total ≡ sum_before selection ds m → total ≡ sum (items_where_true selection ds)
  unfolding sum_before
  sum_all m total past total_is = total_is ∙ ap sum (selected_all selection ds same m past)

-- a bound of all digits is one of those in some words
pub most_in_words : (start end top : ℕ) (ds : List ℕ) → ((k : ℕ) → get_or ds k 0 ≤ top) → (k : ℕ) → get_or (in_words start end ds) k 0 ≤ top
most_in_words start end top ds most k = elim (cases_lt k (64 * (end - start))) [
  | inl within ↦ let read = get_or-chunk (64 * start) (64 * (end - start)) ds k 0 within in omega (arith, read, most (64 * start + k))
  | inr past ↦ let none = get_or_past (in_words start end ds) k 0 (omega (arith, length-in_words start end ds)) in omega (arith, none)
]

-- pairs of bits in some words are no more than the rows
pub few_in_words : (start end : ℕ) (selection bits : List Bool) → length bits ≡ length selection → count_by (λ b. b) (zip2 ◌&&◌ (in_words start end selection) (in_words start end bits)) ≤ length selection
few_in_words start end selection bits same =
    let rows = in_words start end selection in
    let others = in_words start end bits in
    let long : length rows ≡ length others = length-in_words start end selection ∙ ap (λ n. min (64 * (end - start)) (n - 64 * start)) (sym same) ∙ sym (length-in_words start end bits) in
    omega (arith, count_by-le-length (λ b. b) (zip2 ◌&&◌ rows others), length-zip2 ◌&&◌ rows others long, length-in_words start end selection)
