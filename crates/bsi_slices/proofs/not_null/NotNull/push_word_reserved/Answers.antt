use Rattle.std.proofs.Common.{◌≡◌, ◌/◌, ◌%◌, ◌<◌, [], ◌∷◌, true, get_or, refl, ap, ap₂, ◌∙◌, arith}
use Rattle.std.specs.Prelude.{◌==◌}
use Rattle.std.specs.Int.{bit_at}
use Rattle.std.proofs.lemmas.List.Elements.{All-append}
use Rattle.bsi_bits.specs.Packed.{bits_of}
use Rattle.bsi_bits.proofs.Reading.{get_or-bits_of, length-bits_of}
use Rattle.bsi_slices.proofs.not_null.NotNull.push_word_reserved.Goals as goal

-- the rows before had numbers, and so have those of the word
pub invariant_of-self-else-not-begins_with_ones : goal.invariant_of-self-else-not-begins_with_ones
invariant_of-self-else-not-begins_with_ones c = λ clear.
    let ones = c.if-not-begins_with_ones.ensures in
    let word = c.args.word ∷ [] in
    rw c.push_word_reserved.ensures.bits
    (All-append (λ b. b ≡ true) c.self.inside.bits.bits (bits_of c.args.count word) (c.self.invariant clear)
    (λ k d below.
    let row : k < c.args.count = omega (arith, below, length-bits_of c.args.count word) in
    let first : k / 64 ≡ 0 = omega (arith, row, c.requires.few) in
    let place : k % 64 ≡ k = omega (arith, row, c.requires.few) in
    get_or-bits_of c.args.count word k d row
    ∙ ap₂ (λ j r. bit_at (get_or word j 0) r == 1) first place
    ∙ ap (λ b. b == 1) (ones refl k row)))
