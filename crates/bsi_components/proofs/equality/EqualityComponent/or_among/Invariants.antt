use Rattle.std.proofs.Common.{◌≡◌, ℕ, ◌+◌, ◌*◌, ◌<◌, length, get_or}
use Rattle.std.specs.Prelude.{◌||◌}
use Rattle.bsi_bits.specs.Packed.{bit_of}
use Rattle.bsi_components.specs.Equality.{is_among}
use Rattle.bsi_components.proofs.equality.EqualityComponent.or_among.Given as goal

abbrev pub invariant-digits : goal.invariant-digits
invariant-digits l = (p : ℕ) → p < 64 * length l.fn.span → 64 * l.at + p < length l.self.digits → bit_of l.span p ≡ (bit_of l.fn.span p || is_among l.from l.j (get_or l.self.digits (64 * l.at + p) 0))
