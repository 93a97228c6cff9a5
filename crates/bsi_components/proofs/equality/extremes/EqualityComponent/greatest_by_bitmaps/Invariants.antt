use Rattle.std.proofs.Common.{◌≡◌, ℕ, ◌+◌, ◌*◌, ◌<◌, true, length}
use Rattle.std.specs.Prelude.{slice_index}
use Rattle.bsi_bits.specs.Packed.{bit_of}
use Rattle.bsi_components.proofs.equality.extremes.EqualityComponent.greatest_by_bitmaps.Given as goal

-- each row's digit is below those so far
abbrev pub invariant-digits : goal.invariant-digits
invariant-digits l = (p : ℕ) → p < 64 * length l.span → bit_of l.span p ≡ true → slice_index l.self.digits (64 * l.at + p) < l.digit
