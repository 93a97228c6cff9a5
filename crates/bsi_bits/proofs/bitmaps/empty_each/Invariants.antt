use Rattle.std.proofs.Common.{◌≡◌, ℕ, [], length}
use Rattle.bsi_bits.specs.BitLists.{bits_at}
use Rattle.bsi_bits.proofs.bitmaps.empty_each.Given as goal

abbrev pub invariant-vectors : goal.invariant-vectors
invariant-vectors l = record {
  long : length l.made.items ≡ l.counter;
  empty : (j : ℕ) → bits_at l.made.items j ≡ [];
}
