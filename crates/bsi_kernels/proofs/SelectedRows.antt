-- Words of a selection that have no row.
use Rattle.std.proofs.Common.{◌≡◌, ℕ, zero, suc, ◌+◌, ◌-◌, ◌*◌, ◌/◌, ◌%◌, ◌<◌, ◌≤◌, Bool, true, false, List, [], ◌∷◌, cond, map, get_or, inl, inr, ap, sym, ◌∙◌, refl, arith}
use Rattle.std.specs.Prelude.{◌==◌, ◌&&◌, count_by, sum}
use Rattle.std.specs.Int.{bit_at}
use Rattle.std.specs.List.{items_where_true}
use Rattle.std.specs.Simd.Lanes.{zip2}
use Rattle.std.proofs.lemmas.Bool.{cases_lt, true≢false}
use Rattle.std.proofs.lemmas.List.{get_or_past}
use Rattle.std.proofs.lemmas.List.Sums.{sum_by-cons}
use Rattle.std.proofs.lemmas.Nat.Bits.{bit_at-zero}
use Rattle.std.proofs.lemmas.Simd.{get_or-chunk}
use Rattle.bsi_bits.specs.BitList.{in_words}
use Rattle.bsi_bits.specs.Packed.{bit_of}
use Rattle.bsi_bits.proofs.InWords.{length-in_words}

-- no row is found
no_items : {X : Type 0} (selection : List Bool) (items : List X) → ((k : ℕ) → get_or selection k false ≡ false) → items_where_true selection items ≡ []
no_items [] items clear = refl
no_items (f ∷ selection) [] clear = refl
no_items (true ∷ selection) (x ∷ items) clear = absurd (true≢false (clear zero))
no_items (false ∷ selection) (x ∷ items) clear = no_items selection items (λ k. clear (suc k))

-- words without a row have none of the items
pub none_in_words : {X : Type 0} (start end : ℕ) (selection : List Bool) (items : List X) (words : List ℕ) → ((p : ℕ) → bit_of words p ≡ get_or selection p false)
    → ((k : ℕ) → start ≤ k → k < end → get_or words k 0 ≡ 0) → items_where_true (in_words start end selection) (in_words start end items) ≡ []
none_in_words start end selection items words places empty = no_items (in_words start end selection) (in_words start end items) (λ k. elim (cases_lt k (64 * (end - start))) [
  | inl within ↦
      let p = 64 * start + k in
      let word : p / 64 ≡ start + k / 64 = omega arith in
      let no_word : get_or words (p / 64) 0 ≡ 0 = ap (λ i. get_or words i 0) word ∙ empty (start + k / 64) (omega arith) (omega arith) in
      let no_bit : bit_of words p ≡ false = ap (λ w. bit_at w (p % 64) == 1) no_word ∙ ap (λ b. b == 1) (bit_at-zero (p % 64)) in
      get_or-chunk (64 * start) (64 * (end - start)) selection k false within ∙ sym (places p) ∙ no_bit
  | inr past ↦ get_or_past (in_words start end selection) k false (omega (arith, length-in_words start end selection))
])

-- the rows of a bitmap, as numbers that are 0 or 1
abbrev pub one_each : Bool → ℕ
one_each b = cond b 1 0

-- the selected rows of a bitmap are as many as these numbers add up to
pub count_sum : (selection bits : List Bool) → count_by (λ b. b) (zip2 ◌&&◌ selection bits) ≡ sum (items_where_true selection (map one_each bits))
count_sum [] bits = refl
count_sum (f ∷ selection) [] = refl
count_sum (true ∷ selection) (b ∷ bits) =
    sum_by-cons (λ b. cond b 1 0) b (zip2 ◌&&◌ selection bits) ∙ ap (λ n. one_each b + n) (count_sum selection bits)
    ∙ sym (sum_by-cons (λ n. n) (one_each b) (items_where_true selection (map one_each bits)))
count_sum (false ∷ selection) (b ∷ bits) =
    let none : count_by (λ b. b) (zip2 ◌&&◌ (false ∷ selection) (b ∷ bits)) ≡ 0 + count_by (λ b. b) (zip2 ◌&&◌ selection bits) =
    sum_by-cons (λ b. cond b 1 0) false (zip2 ◌&&◌ selection bits) in
    omega (arith, none, count_sum selection bits)
