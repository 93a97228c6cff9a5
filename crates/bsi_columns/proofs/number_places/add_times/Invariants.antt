use Rattle.std.proofs.Common.{◌≡◌, ℕ, ◌+◌, ◌*◌, ◌%◌, ◌^◌, ◌<◌, length}
use Rattle.bsi_columns.specs.NumberPlaces.{IsNumberAt}
use Rattle.bsi_columns.proofs.number_places.add_times.Given as goal

-- so many times are added as the places of `times` below k say
abbrev pub invariant-places : goal.invariant-places
invariant-places l = record {
  long : length l.sums ≡ length l.fn.sums;
  sums : (p x y : ℕ) → p < 64 * 16 → IsNumberAt l.more p x → IsNumberAt l.fn.sums p y → IsNumberAt l.sums p (y + x * (l.times % 2 ^ l.k));
}
