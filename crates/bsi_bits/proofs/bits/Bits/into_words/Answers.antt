use Rattle.std.proofs.Common.{ap, sym, ◌∙◌}
use Rattle.std.specs.Prelude.{◌/◌, ◌+◌}
use Rattle.bsi_bits.proofs.Reading.{length-bits_of, packed_place}
use Rattle.bsi_bits.proofs.bits.Bits.into_words.Goals as goal

pub returns-clause-few : goal.returns-clause-few
returns-clause-few c =
    rw (← c.self.view_is)
    (c.self.invariant.few ∙ ap (λ n. (n + 63) / 64) (sym (length-bits_of c.self.inside.len c.self.inside.words.items)))

pub returns-clause-places : goal.returns-clause-places
returns-clause-places c = rw (← c.self.view_is) (packed_place c.self.inside.len c.self.inside.words.items c.self.invariant)
