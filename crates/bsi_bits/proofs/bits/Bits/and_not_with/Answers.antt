use Rattle.std.specs.Prelude.{bit_and, ◌<◌, ◌^◌}
use Rattle.std.specs.Int.{bit_not, w64}
use Rattle.bsi_bits.specs.BitList.{without}
use Rattle.bsi_bits.proofs.Logic.{and_not_bitwise, same_words, combined_packed, combined_bits}
use Rattle.bsi_bits.proofs.bits.Bits.and_not_with.Goals as goal

pub and_not-requires : goal.and_not-requires
and_not-requires c =
    let same = rw (← c.self.view_is, ← c.other.view_is) at c.requires in
    rw (c.deref_mut.ensures.value, c.deref-2.ensures.value)
    (same_words c.self.inside.len c.other.inside.len c.self.inside.words.items c.other.inside.words.items c.self.invariant c.other.invariant same)

pub invariant_of-self : goal.invariant_of-self
invariant_of-self c =
    let same = rw (← c.self.view_is, ← c.other.view_is) at c.requires in
    combined_packed c.self.inside.len c.other.inside.len c.self.inside.words.items c.other.inside.words.items c.self.invariant c.other.invariant same
    (λ y. y < 2 ^ 64) (λ x y. bit_and x (bit_not w64 y)) without and_not_bitwise (rw c.deref.ensures.value at c.know_fits.ensures)
    c.self.inside.words.len c.self.inside.words.ok.0 c.deref_mut.result.now c.deref-2.result.now c.and_not.new.a c.deref_mut.ensures.value c.deref-2.ensures.value c.and_not.ensures

pub returns-clause-bits : goal.returns-clause-bits
returns-clause-bits c =
    let same = rw (← c.self.view_is, ← c.other.view_is) at c.requires in
    rw (← c.self.view_is, ← c.other.view_is) (combined_bits c.self.inside.len c.other.inside.len c.self.inside.words.items c.other.inside.words.items c.self.invariant c.other.invariant same
    (λ y. y < 2 ^ 64) (λ x y. bit_and x (bit_not w64 y)) without and_not_bitwise (rw c.deref.ensures.value at c.know_fits.ensures)
    c.self.inside.words.len c.self.inside.words.ok.0 c.deref_mut.result.now c.deref-2.result.now c.and_not.new.a c.deref_mut.ensures.value c.deref-2.ensures.value c.and_not.ensures)
