use Rattle.std.proofs.Common.{◌≡◌, ℕ, ◌+◌, ◌*◌, ◌%◌, ◌^◌, ◌<◌, length, take}
use Rattle.std.specs.Prelude.{◌==◌}
use Rattle.bsi_bits.specs.Packed.{bit_of}
use Rattle.bsi_slices.specs.Slices.{number}
use Rattle.bsi_slices.proofs.slices.compare.equal_span.Given as goal

-- the rows whose places so far are those of the constant
abbrev pub invariant-slices : goal.invariant-slices
invariant-slices g l = record {
  long : length l.equal ≡ g.row.N;
  bits : (p : ℕ) → p < 64 * g.row.N → bit_of l.equal p ≡ (l.constant % 2 ^ l.place == number (take l.place l.slices) (64 * l.at + p));
}
