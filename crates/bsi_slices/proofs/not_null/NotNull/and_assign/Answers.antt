use Rattle.std.proofs.Common.{◌≡◌, ℕ, ◌+◌, ◌-◌, ◌*◌, ◌/◌, ◌%◌, ◌<◌, ◌&&◌, true, false, length, get_or, inl, inr, ap, ap₂, sym, ◌∙◌, arith}
use Rattle.std.specs.Prelude.{◌==◌, bit_and}
use Rattle.std.specs.Int.{bit_at}
use Rattle.std.proofs.Math.Bool.{and-true}
use Rattle.std.proofs.lemmas.Bool.{cases_eq}
use Rattle.std.proofs.lemmas.List.Elements.{All-get_or}
use Rattle.bsi_bits.specs.Packed.{bit_of}
use Rattle.bsi_bits.proofs.Logic.{and_bitwise}
use Rattle.bsi_bits.proofs.Places.{bit_in_other, bit_in_written}
use Rattle.bsi_slices.proofs.not_null.NotNull.and_assign.Goals as goal

-- the bits are those of the bitmap
pub returns-then-self-clause-bits : goal.returns-then-self-clause-bits
returns-then-self-clause-bits c = λ p below.
    c.and_assign.ensures.bits p below ∙ ap (λ b. bit_of c.args.span.now p && get_or b.bits (64 * c.args.at + p) false) c.self.view_is

-- the rows of the words before the last all have numbers
pub returns-then-not-is_empty-clause-bits : goal.returns-then-not-is_empty-clause-bits
returns-then-not-is_empty-clause-bits c = λ p below.
    let at : ℕ = c.args.at in
    let span = c.args.span.now in
    let last : ℕ = length span - 1 in
    let words = c.words-words.result.now in
    let r : ℕ = 64 * at + p in
    let cut = bit_and (get_or span last 0) (get_or words (at + last) 0) in
    let bits_are = ap (λ b. b.bits) c.self.view_is in
    let long = ap length bits_are in
    elim (cases_eq (p / 64) last) [
      | inl same ↦
          let word : r / 64 ≡ at + last = omega (arith, same) in
          let place : r % 64 ≡ p % 64 = omega arith in
          bit_in_written span last cut (omega (arith, below)) p same
          ∙ and_bitwise.at (get_or span last 0) (get_or words (at + last) 0) (p % 64) tt (omega arith)
          ∙ ap₂ (λ j k. (bit_at (get_or span j 0) (p % 64) == 1) && (bit_at (get_or words k 0) (p % 64) == 1)) (sym same) (sym word)
          ∙ ap (λ k. bit_of span p && (bit_at (get_or words (r / 64) 0) k == 1)) (sym place)
          ∙ ap (◌&&◌ (bit_of span p)) (c.words-words.ensures.places r ∙ ap (λ bits. get_or bits r false) bits_are)
      | inr apart ↦
          let row : r < length c.self.inside.bits.bits = omega (arith, below, apart, c.requires, long) in
          bit_in_other span last cut p apart
          ∙ sym (and-true (bit_of span p))
          ∙ ap (◌&&◌ (bit_of span p)) (sym (All-get_or (λ b. b ≡ true) c.self.inside.bits.bits r false row (c.self.invariant c.if-self.false)) ∙ ap (λ bits. get_or bits r false) bits_are)
    ]
