use Rattle.std.specs.Prelude.{bit_or, ◌||◌}
use Rattle.bsi_bits.proofs.Logic.{or_bitwise, same_words, combined_packed, combined_bits}
use Rattle.bsi_bits.proofs.bits.Bits.or_with.Goals as goal

pub or-requires : goal.or-requires
or-requires c =
    let same = rw (← c.self.view_is, ← c.other.view_is) at c.requires in
    rw (c.deref_mut.ensures.value, c.deref.ensures.value)
    (same_words c.self.inside.len c.other.inside.len c.self.inside.words.items c.other.inside.words.items c.self.invariant c.other.invariant same)

pub invariant_of-self : goal.invariant_of-self
invariant_of-self c =
    let same = rw (← c.self.view_is, ← c.other.view_is) at c.requires in
    combined_packed c.self.inside.len c.other.inside.len c.self.inside.words.items c.other.inside.words.items c.self.invariant c.other.invariant same
    (λ _. Unit {0}) bit_or ◌||◌ or_bitwise (λ k. tt)
    c.self.inside.words.len c.self.inside.words.ok.0 c.deref_mut.result.now c.deref.result.now c.or.new.a c.deref_mut.ensures.value c.deref.ensures.value c.or.ensures

pub returns-clause-bits : goal.returns-clause-bits
returns-clause-bits c =
    let same = rw (← c.self.view_is, ← c.other.view_is) at c.requires in
    rw (← c.self.view_is, ← c.other.view_is) (combined_bits c.self.inside.len c.other.inside.len c.self.inside.words.items c.other.inside.words.items c.self.invariant c.other.invariant same
    (λ _. Unit {0}) bit_or ◌||◌ or_bitwise (λ k. tt)
    c.self.inside.words.len c.self.inside.words.ok.0 c.deref_mut.result.now c.deref.result.now c.or.new.a c.deref_mut.ensures.value c.deref.ensures.value c.or.ensures)
