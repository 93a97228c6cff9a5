use Rattle.std.proofs.Common.{◌≡◌, ℕ, ◌+◌, ◌*◌, ◌^◌, ◌<◌, ◌≤◌, List, length, get_or}
use Rattle.bsi_bits.specs.Packed.{bit_of}
use Rattle.bsi_kernels.specs.Extremes.{improves}
use Rattle.bsi_kernels.specs.Places.{has_place, IsEncoded}
use Rattle.bsi_kernels.proofs.ExtremeSpans.{IsNearest}
use Rattle.bsi_kernels.proofs.extremes.improve_by_places.Given as goal

-- the rows that are kept have the number above the place, which comes first
abbrev pub invariant-places : goal.invariant-places
invariant-places g l = record {
  nearest : (numbers : List ℕ) → IsEncoded has_place l.places numbers → ((k : ℕ) → get_or numbers k 0 < 2 ^ length l.places)
      → IsNearest l.extreme (bit_of l.fn.rows) (λ p. get_or numbers (64 * l.at + p) 0) (64 * g.row.N) (2 ^ l.place) l.number (bit_of l.narrowed);
  small : l.number * 2 ^ l.place + 2 ^ l.place ≤ 2 ^ length l.places;
  better : l.place ≡ 0 → improves l.extreme l.number l.best;
}
