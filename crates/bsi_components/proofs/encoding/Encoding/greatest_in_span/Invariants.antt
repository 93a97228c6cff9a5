use Rattle.std.proofs.Common.{◌≡◌, ℕ, ◌+◌, ◌*◌, ◌<◌, true, length}
use Rattle.std.specs.Prelude.{slice_index, IsTrue}
use Rattle.bsi_bits.specs.Packed.{bit_of}
use Rattle.bsi_components.proofs.encoding.Encoding.greatest_in_span.Given as goal

-- each row's digit is below those so far
abbrev pub invariant-digits : goal.invariant-digits
invariant-digits g l = IsTrue g.Self.Encoding.works_on_spans → (p : ℕ) → p < 64 * length l.span → bit_of l.span p ≡ true → slice_index (g.Self.Encoding.digits l.self) (64 * l.at + p) < l.digit
