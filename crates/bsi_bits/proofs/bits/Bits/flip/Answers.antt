use Rattle.std.proofs.Common.{◌≡◌, ◌*◌, ◌≤◌, length, map, ap, sym, ◌∙◌, arith}
use Rattle.std.specs.Int.{bit_not, w64}
use Rattle.std.proofs.lemmas.List.{length-map}
use Rattle.bsi_bits.specs.Packed.{bits_of}
use Rattle.bsi_bits.proofs.Logic.{turned_bits, written}
use Rattle.bsi_bits.proofs.bits.Bits.flip.Goals as goal

-- each word is turned, and then the places past the bits are cleared
pub returns-clause-bits : goal.returns-clause-bits
returns-clause-bits c =
    let words = c.self.inside.words.items in
    let turned : c.not.new.a ≡ map (bit_not w64) words = c.not.ensures ∙ ap (map (bit_not w64)) c.deref_mut.ensures.value in
    let long : length words ≡ c.self.inside.words.len = sym c.self.inside.words.ok.0 in
    let stored = written c.self.inside.words.len c.not.new.a words long (ap length turned ∙ length-map words (bit_not w64) ∙ long) in
    let enough : c.self.inside.len ≤ 64 * length words = omega (arith, c.self.invariant.few) in
    rw (← c.self.view_is) (
    c.trim.ensures.bits ∙ ap (bits_of c.self.inside.len) (stored ∙ turned)
    ∙ turned_bits c.self.inside.len words enough (rw c.deref.ensures.value at c.know_fits.ensures))
