use Rattle.std.proofs.Common.{◌≡◌, ℕ, ◌+◌, ◌*◌, ◌%◌, ◌^◌, ◌<◌, ◌≤◌, [], length, get_or}
use Rattle.std.specs.Prelude.{nat_le}
use Rattle.bsi_bits.specs.Packed.{bit_of}
use Rattle.bsi_kernels.specs.Places.{has_place}
use Rattle.bsi_columns.specs.NumberPlaces.{IsNumberAt}
use Rattle.bsi_columns.proofs.number_places.add_each.Given as goal

-- the places below k are those of the sums, and the carries are into place k
abbrev pub invariant-places : goal.invariant-places
invariant-places l = record {
  long : length l.sums ≡ length l.fn.sums;
  carries : (p x : ℕ) → p < 64 * 16 → IsNumberAt l.fn.sums p x → bit_of l.carry p ≡ nat_le (2 ^ l.k) (x % 2 ^ l.k + l.number % 2 ^ l.k);
  done : (p x : ℕ) → p < 64 * 16 → IsNumberAt l.fn.sums p x → (j : ℕ) → j < l.k → bit_of (get_or l.sums j []) p ≡ has_place j (x + l.number);
  rest : (j : ℕ) → l.k ≤ j → get_or l.sums j [] ≡ get_or l.fn.sums j [];
}
