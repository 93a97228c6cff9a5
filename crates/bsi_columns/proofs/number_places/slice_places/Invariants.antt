use Rattle.std.proofs.Common.{◌≡◌, ℕ, ◌+◌, ◌*◌, ◌<◌, [], length, get_or}
use Rattle.bsi_bits.specs.Packed.{bit_of}
use Rattle.bsi_kernels.specs.Places.{has_place}
use Rattle.bsi_columns.specs.Extremes.{number_at}
use Rattle.bsi_columns.proofs.number_places.slice_places.Given as goal

-- the places below k are written
abbrev pub invariant-places : goal.invariant-places
invariant-places l = record {
  long : length l.places ≡ length l.fn.places;
  done : (p : ℕ) → p < 64 * l.words → 64 * l.at + p < length l.column.entries → (j : ℕ) → j < l.k → bit_of (get_or l.places j []) p ≡ has_place j (number_at l.column.entries (64 * l.at + p));
}
