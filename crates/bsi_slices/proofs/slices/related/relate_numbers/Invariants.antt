use Rattle.std.proofs.Common.{◌≡◌, ℕ, ◌+◌, ◌*◌, ◌<◌, length, take}
use Rattle.bsi_bits.specs.Packed.{bit_of}
use Rattle.bsi_slices.specs.Slices.{number}
use Rattle.bsi_slices.specs.PairRelations.{relation_holds}
use Rattle.bsi_slices.proofs.slices.related.relate_numbers.Given as goal

-- how the numbers stand by the places so far
abbrev pub invariant-places : goal.invariant-places
invariant-places l = record {
  long : length l.state ≡ length l.fn.state;
  bits : (p : ℕ) → p < 64 * length l.fn.state → bit_of l.state p ≡ relation_holds l.relation (number (take l.place l.slices) (64 * l.at + p)) (number (take l.place l.others) (64 * l.at + p));
}
