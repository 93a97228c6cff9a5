use Rattle.std.proofs.Common.{◌≡◌, ℕ, ◌+◌, ◌*◌, ◌<◌, ◌&&◌, ◌||◌, length, get_or, take, length-set, ap, ap₂, sym, ◌∙◌, arith}
use Rattle.std.specs.Prelude.{◌==◌, bit_and, bit_or, bit_xor, if◌then◌else◌}
use Rattle.std.specs.Int.{bit_at}
use Rattle.std.proofs.lemmas.List.{get_or-set_other, take_all}
use Rattle.bsi_bits.specs.BitList.{differ}
use Rattle.bsi_bits.specs.Packed.{bit_of}
use Rattle.bsi_bits.proofs.Reading.{all_set, none_set}
use Rattle.bsi_slices.proofs.StateWords.{carry_bit, sum_bit, word_bit, word_more}
use Rattle.bsi_slices.proofs.pair_relation.add_place.Goals.{then-is_one, else-is_one}
use Rattle.bsi_slices.proofs.pair_relation.add_place.Goals as goal

pub words-preserved : goal.words-preserved
words-preserved c =
    let old = c.args.carry.now in
    let digits = c.args.digits.now in
    let one = c.args.is_one in
    let addend = c.if-is_one.addend in
    let all : (r : ℕ) → r < 64 → (bit_at addend r == 1) ≡ one = λ r near. elim c.if-is_one.branch [
      | then-is_one w ↦ ap (λ a. bit_at a r == 1) w.addend-is ∙ all_set r near ∙ sym w.if-is_one.true
      | else-is_one w ↦ ap (λ a. bit_at a r == 1) w.addend-is ∙ none_set r near ∙ sym w.if-is_one.false
    ] in
    let k = c.words.k in
    let carry = c.words.carry in
    let inside : k < length carry = omega (arith, c.words-test.true, c.words.auto.k-end, c.words.invariant.long) in
    let read : get_or (take (length old) digits) k 0 ≡ get_or digits k 0 = ap (λ xs. get_or xs k 0) (take_all (length old) digits (omega (arith, c.requires.digits))) in
    let was : (r : ℕ) → r < 64 → (bit_at (get_or carry k 0) r == 1) ≡ bit_of old (64 * k + r) = λ r near.
    ap (λ w. bit_at w r == 1) (c.words.invariant.rest k (omega arith)) ∙ word_bit old k r near in
    record {
      long = length-set carry k _ ∙ c.words.invariant.long;
      sum_long = length-set c.words.sum k _ ∙ c.words.invariant.sum_long;
      sums = word_more (λ p. differ (differ (bit_of digits p) (bit_of old p)) one) c.words.sum k _ (omega (arith, c.words-test.true, c.words.auto.k-end, c.words.invariant.sum_long))
          (λ r near.
          ap (λ x. bit_at (bit_xor (bit_xor x (get_or carry k 0)) addend) r == 1) read
          ∙ sum_bit (get_or digits k 0) (get_or carry k 0) r near addend one (all r near)
          ∙ ap₂ (λ a b. differ (differ a b) one) (word_bit digits k r near) (was r near))
          c.words.invariant.sums;
      carries = word_more (λ p. if one then bit_of digits p || bit_of old p else bit_of digits p && bit_of old p) carry k _ inside
          (λ r near.
          ap (λ x. bit_at (bit_or (bit_and x (get_or carry k 0)) (bit_and (bit_or x (get_or carry k 0)) addend)) r == 1) read
          ∙ carry_bit (get_or digits k 0) (get_or carry k 0) r near addend one (all r near)
          ∙ ap₂ (λ a b. if one then a || b else a && b) (word_bit digits k r near) (was r near))
          c.words.invariant.carries;
      rest = λ i past. get_or-set_other carry k i _ 0 (omega arith) ∙ c.words.invariant.rest i (omega arith);
    }
