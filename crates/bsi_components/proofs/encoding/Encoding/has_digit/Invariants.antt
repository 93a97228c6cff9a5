use Rattle.std.proofs.Common.{◌≡◌, ℕ, ◌+◌, ◌*◌, ◌<◌, true}
use Rattle.std.specs.Prelude.{◌≢◌, slice_index, IsTrue}
use Rattle.bsi_bits.specs.Packed.{bit_of}
use Rattle.bsi_components.proofs.encoding.Encoding.has_digit.Given as goal

-- no row of the words so far has the digit
abbrev pub invariant-words : goal.invariant-words
invariant-words g l = IsTrue g.Self.Encoding.works_on_spans → (p : ℕ) → p < 64 * l.k → bit_of l.span p ≡ true → slice_index (g.Self.Encoding.digits l.self) (64 * l.at + p) ≢ l.d
