use Rattle.std.proofs.Common.{ap, ◌∙◌}
use Rattle.std.specs.Prelude.{sum_by, count_ones}
use Rattle.bsi_bits.proofs.Counting.{count_packed}
use Rattle.bsi_bits.proofs.bits.Bits.count.Goals as goal

pub returns : goal.returns
returns c =
    rw (← c.self.view_is) (
    c.count.ensures.ones ∙ ap (sum_by count_ones) c.deref-2.ensures.value
    ∙ count_packed c.self.inside.len c.self.inside.words.items c.self.invariant (rw c.deref.ensures.value at c.know_fits.ensures))
