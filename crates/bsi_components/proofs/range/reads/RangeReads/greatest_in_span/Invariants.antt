use Rattle.std.proofs.Common.{◌≡◌, ℕ, ◌+◌, ◌*◌, ◌<◌, ◌≤◌, true, length}
use Rattle.std.specs.Prelude.{slice_index}
use Rattle.bsi_bits.specs.Packed.{bit_of}
use Rattle.bsi_components.proofs.range.reads.RangeReads.greatest_in_span.Given as goal

-- a row's digit is at least this one
abbrev pub invariant-digits : goal.invariant-digits
invariant-digits l = (p : ℕ) × (p < 64 * length l.span) × (bit_of l.span p ≡ true) × (l.digit ≤ slice_index l.component.digits (64 * l.at + p))
