use Rattle.std.proofs.Common.{◌≡◌, ℕ, ◌+◌, ◌*◌, ◌%◌, ◌^◌, ◌<◌, List, length, get_or}
use Rattle.bsi_bits.specs.Packed.{bit_of}
use Rattle.bsi_kernels.specs.Places.{at_most_step, has_place, IsEncoded}
use Rattle.bsi_kernels.proofs.comparisons.order_span.Given as goal

-- the rows are ordered by the places so far
abbrev pub invariant-places : goal.invariant-places
invariant-places g l = record {
  long : length l.low ≡ g.row.N;
  bits : (numbers : List ℕ) → IsEncoded has_place l.places numbers → (p : ℕ) → p < 64 * g.row.N
      → bit_of l.low p ≡ at_most_step (bit_of l.fn.rows p) (get_or numbers (64 * l.at + p) 0 % 2 ^ l.i) (l.constant % 2 ^ l.i);
}
