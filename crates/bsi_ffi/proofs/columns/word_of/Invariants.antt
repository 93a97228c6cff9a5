use Rattle.std.proofs.Common.{◌≡◌, ℕ, ◌*◌, ◌/◌, ◌%◌, ◌^◌, ◌<◌}
use Rattle.std.specs.Prelude.{slice_index}
use Rattle.std.specs.Int.{bit_at}
use Rattle.bsi_ffi.proofs.columns.word_of.Given as goal

-- the bytes so far stand in the word, and nothing above them
abbrev pub invariant-bytes : goal.invariant-bytes
invariant-bytes l = record {
  clear : l.word < 2 ^ (8 * l.i);
  bits : (r : ℕ) → r < 8 * l.i → bit_at l.word r ≡ bit_at (slice_index l.bytes (r / 8)) (r % 8);
}
