use Rattle.std.proofs.Common.{◌≡◌, ℕ, ◌+◌, ◌*◌, ◌<◌, ◌^◌, length, take}
use Rattle.std.specs.Prelude.{nat_le}
use Rattle.bsi_bits.specs.Packed.{bit_of}
use Rattle.bsi_slices.specs.Slices.{number}
use Rattle.bsi_slices.specs.PairRelations.{relation_holds}
use Rattle.bsi_slices.proofs.Related.{low, sum}
use Rattle.bsi_slices.proofs.slices.related.relate_sums.Given as goal

-- the carries, and how the sums stand to the other numbers by the places so far
abbrev pub invariant-places : goal.invariant-places
invariant-places l = record {
  long : length l.state ≡ length l.fn.state;
  carries_long : length l.carry ≡ length l.fn.state;
  sums_long : length l.sum ≡ length l.fn.state;
  carries : (p : ℕ) → p < 64 * length l.fn.state → bit_of l.carry p ≡ nat_le (2 ^ l.place) (sum l.slices l.more (64 * l.at + p) l.place);
  bits : (p : ℕ) → p < 64 * length l.fn.state → bit_of l.state p ≡ relation_holds l.relation (low (sum l.slices l.more (64 * l.at + p) l.place) (2 ^ l.place)) (number (take l.place l.others) (64 * l.at + p));
}
