use Rattle.std.proofs.Common.{◌≡◌, ℕ, ◌+◌, ◌*◌, ◌%◌, ◌^◌, ◌<◌, length, take, nat_lt}
use Rattle.bsi_bits.specs.Packed.{bit_of}
use Rattle.bsi_slices.specs.Slices.{number}
use Rattle.bsi_slices.proofs.slices.compare.above_span.Given as goal

-- the rows above by the places so far
abbrev pub invariant-slices : goal.invariant-slices
invariant-slices g l = record {
  long : length l.above ≡ g.row.N;
  bits : (p : ℕ) → p < 64 * g.row.N → bit_of l.above p ≡ nat_lt (l.constant % 2 ^ l.place) (number (take l.place l.slices) (64 * l.at + p));
}
