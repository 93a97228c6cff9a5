use Rattle.std.proofs.Common.{ap₂, ◌∙◌}
use Rattle.std.specs.Prelude.{bit_and, ◌&&◌, sum_by, count_ones}
use Rattle.std.specs.Simd.Lanes.{zip2}
use Rattle.std.proofs.lemmas.Nat.{and_le_l}
use Rattle.bsi_bits.proofs.Logic.{and_bitwise, same_words}
use Rattle.bsi_bits.proofs.CountingPairs.{count_pairs}
use Rattle.bsi_bits.proofs.bits.Bits.count_and.Goals as goal

pub count_and-requires : goal.count_and-requires
count_and-requires c =
    let same = rw (← c.self.view_is, ← c.other.view_is) at c.requires in
    rw (c.deref-3.ensures.value, c.deref-4.ensures.value)
    (same_words c.self.inside.len c.other.inside.len c.self.inside.words.items c.other.inside.words.items c.self.invariant c.other.invariant same)

pub returns : goal.returns
returns c =
    let same = rw (← c.self.view_is, ← c.other.view_is) at c.requires in
    rw (← c.self.view_is, ← c.other.view_is) (
    c.count_and.ensures.ones ∙ ap₂ (λ a b. sum_by count_ones (zip2 bit_and a b)) c.deref-3.ensures.value c.deref-4.ensures.value
    ∙ count_pairs c.self.inside.len c.other.inside.len c.self.inside.words.items c.other.inside.words.items c.self.invariant c.other.invariant same
    (rw c.deref.ensures.value at c.know_fits.ensures) (λ _. Unit {0}) bit_and ◌&&◌ and_bitwise (λ k. tt) and_le_l)
