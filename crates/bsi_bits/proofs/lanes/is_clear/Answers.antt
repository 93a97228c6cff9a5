use Rattle.std.proofs.Common.{◌≡◌, ℕ, true, inl, inr, length, get_or, arith, ap, ap₂, ◌∙◌}
use Rattle.std.specs.Prelude.{bit_or, ◌==◌}
use Rattle.std.proofs.lemmas.Bool.{cases_lt}
use Rattle.std.proofs.lemmas.Bool.Decides.{nat_tests}
use Rattle.std.proofs.lemmas.List.{get_or_past}
use Rattle.std.proofs.lemmas.Nat.{le_or_l, le_or_r}
use Rattle.bsi_bits.proofs.lanes.is_clear.Goals as goal

-- neither what was seen nor this word has a bit
pub words-preserved : goal.words-preserved
words-preserved c =
    let word = get_or c.args.words.now c.words.word-index 0 in
    record {
      none = λ zero k below.
          let before : c.words.seen ≡ 0 = omega (arith, zero, le_or_l c.words.seen word) in
          let here : word ≡ 0 = omega (arith, zero, le_or_r c.words.seen word) in
          elim (cases_lt k c.words.word-index) [
            | inl first ↦ c.words.invariant.none before k first
            | inr last ↦ let same : k ≡ c.words.word-index = omega arith in ap (λ i. get_or c.args.words.now i 0) same ∙ here
          ];
      empty = λ each. ap₂ bit_or (c.words.invariant.empty each) (each c.words.word-index);
    }

zero_from : (n : ℕ) → (n == 0) ≡ true → n ≡ 0
zero_from n same = grind (arith, nat_tests, same)

-- no word is left
pub returns : goal.returns
returns c = (
  (λ same k. elim (cases_lt k (length c.args.words.now)) [
    | inl within ↦ c.words.invariant.none (zero_from c.words.seen same) k (omega (arith, c.words-test.false))
    | inr past ↦ get_or_past c.args.words.now k 0 past
  ]),
  (λ each. ap (λ n. n == 0) (c.words.invariant.empty each)),
)
