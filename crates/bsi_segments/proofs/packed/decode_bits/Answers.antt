use Rattle.std.proofs.Common.{◌≡◌, ℕ, ◌^◌, ◌<◌, ◌≤◌, List, false, length, get_or, ap, sym, subst, ◌∙◌, arith}
use Rattle.std.proofs.lemmas.List.{get_or_past}
use Rattle.bsi_bits.specs.BitList.{word_count}
use Rattle.bsi_bits.specs.Packed.{bit_of, bits_of, IsPacked}
use Rattle.bsi_bits.proofs.Reading.{length-bits_of, packed_place}
use Rattle.bsi_segments.specs.Bitmaps.{packed}
use Rattle.bsi_segments.proofs.Packing.{packed_are, packed_bit}
use Rattle.bsi_segments.proofs.packed.decode_bits.Goals as goal

pub returns-then-not-are_clear_past-clause-none : goal.returns-then-not-are_clear_past-clause-none
returns-then-not-are_clear_past-clause-none c = λ bits long are.
    let words = c.deref.result.now in
    c.are_clear_past.ensures.set c.if-not-are_clear_past.true (λ i from.
    ap (λ ws. bit_of ws i) (c.deref.ensures.value ∙ are) ∙ packed_bit bits i ∙ get_or_past bits i false (omega (arith, long, from)))

pub returns-clause-made : goal.returns-clause-made
returns-clause-made c =
    let words = c.args.words.items in
    let n = c.args.n in
    let fits : (k : ℕ) → get_or words k 0 < 2 ^ 64 = subst (λ (ws : List ℕ). (k : ℕ) → get_or ws k 0 < 2 ^ 64) c.deref-2.ensures.value c.know_words.ensures.each in
    let clear : (i : ℕ) → n ≤ i → bit_of words i ≡ false =
    subst (λ (ws : List ℕ). (i : ℕ) → n ≤ i → bit_of ws i ≡ false) c.deref.ensures.value (c.are_clear_past.ensures.clear c.if-not-are_clear_past.false) in
    let is : IsPacked n words = record { within = c.requires.within; few = c.requires.few; clear = clear } in
    let long = length-bits_of n words in
    let few : length words ≡ word_count (length (bits_of n words)) = c.requires.few ∙ ap word_count (sym long) in (
      ap length c.from_words.ensures ∙ long,
      packed_are words (bits_of n words) fits few (λ i. packed_place n words is i) ∙ ap packed (sym c.from_words.ensures),
    )
