use Rattle.std.proofs.Common.{◌≡◌, ℕ, ◌+◌, ◌*◌, ◌<◌, List, length, get_or, take, length-set, ap, ap₂, ◌∙◌, arith}
use Rattle.std.specs.Prelude.{◌==◌, bit_and, bit_xor, if◌then◌else◌}
use Rattle.std.specs.Int.{bit_at}
use Rattle.std.proofs.lemmas.List.{get_or-set_other, take_all}
use Rattle.bsi_bits.specs.BitList.{differ}
use Rattle.bsi_bits.specs.Packed.{bit_of}
use Rattle.bsi_slices.proofs.StateWords.{lower_bit, word_bit, word_more}
use Rattle.bsi_slices.proofs.pair_relation.step_lower.Goals as goal

pub words-preserved : goal.words-preserved
words-preserved c =
    let old = c.args.state.now in
    let first = c.args.first.now in
    let second = c.args.second.now in
    let k = c.words.k in
    let state = c.words.state in
    let inside : k < length state = omega (arith, c.words-test.true, c.words.auto.k-end, c.words.invariant.long) in
    let word : List ℕ → List ℕ → ℕ = λ xs ys. bit_xor (get_or state k 0) (bit_and (bit_xor (get_or xs k 0) (get_or ys k 0)) (bit_xor (get_or state k 0) (get_or ys k 0))) in
    let same : word (take (length old) first) (take (length old) second) ≡ word first second =
    ap₂ word (take_all (length old) first (omega (arith, c.requires.first))) (take_all (length old) second (omega (arith, c.requires.second))) in
    let more = word_more (λ p. if differ (bit_of first p) (bit_of second p) then bit_of second p else bit_of old p) state k (word (take (length old) first) (take (length old) second)) inside
    (λ r near.
    let was : (bit_at (get_or state k 0) r == 1) ≡ bit_of old (64 * k + r) =
    ap (λ w. bit_at w r == 1) (c.words.invariant.rest k (omega arith)) ∙ word_bit old k r near in
    ap (λ w. bit_at w r == 1) same
    ∙ lower_bit (get_or first k 0) (get_or second k 0) r near (get_or state k 0)
    ∙ ap₂ (λ a b. if differ a b then b else bit_at (get_or state k 0) r == 1) (word_bit first k r near) (word_bit second k r near)
    ∙ ap (λ w. if differ (bit_of first (64 * k + r)) (bit_of second (64 * k + r)) then bit_of second (64 * k + r) else w) was)
    c.words.invariant.done in
    record {
      long = length-set state k _ ∙ c.words.invariant.long;
      done = more;
      rest = λ i past. get_or-set_other state k i _ 0 (omega arith) ∙ c.words.invariant.rest i (omega arith);
    }
