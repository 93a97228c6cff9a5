use Rattle.std.proofs.Common.{ap, sym, ◌∙◌}
use Rattle.bsi_bits.specs.Packed.{bits_of}
use Rattle.bsi_bits.proofs.Logic.{same_words, other_fits, same_len}
use Rattle.bsi_bits.proofs.bits.Bits.copy_from.Goals as goal

pub copy_from_slice-requires : goal.copy_from_slice-requires
copy_from_slice-requires c =
    let same = rw (← c.self.view_is, ← c.other.view_is) at c.requires in
    rw c.deref.ensures.value (c.self.inside.words.ok.0
    ∙ same_words c.self.inside.len c.other.inside.len c.self.inside.words.items c.other.inside.words.items c.self.invariant c.other.invariant same)

pub invariant_of-self : goal.invariant_of-self
invariant_of-self c =
    let same = rw (← c.self.view_is, ← c.other.view_is) at c.requires in
    rw (c.copy_from_slice.ensures.items, c.deref.ensures.value)
    (other_fits c.self.inside.len c.other.inside.len c.self.inside.words.items c.other.inside.words.items c.self.invariant c.other.invariant same)

pub returns-clause-bits : goal.returns-clause-bits
returns-clause-bits c =
    let same = rw (← c.self.view_is, ← c.other.view_is) at c.requires in
    rw (c.copy_from_slice.ensures.items, c.deref.ensures.value, ← c.other.view_is)
    (ap (λ k. bits_of k c.other.inside.words.items)
    (sym (same_len c.self.inside.len c.other.inside.len c.self.inside.words.items c.other.inside.words.items c.self.invariant c.other.invariant same)))
