use Rattle.std.proofs.Common.{◌≡◌, ℕ, ◌*◌, ◌<◌, ◌≤◌, ◌||◌, length, get_or}
use Rattle.bsi_bits.specs.BitList.{differ}
use Rattle.bsi_bits.specs.Packed.{bit_of}
use Rattle.bsi_slices.proofs.pair_relation.step_unequal.Given as goal

-- the first k words are written
abbrev pub invariant-words : goal.invariant-words
invariant-words l = record {
  long : length l.state ≡ length l.fn.state;
  done : (p : ℕ) → p < 64 * l.k → bit_of l.state p ≡ (bit_of l.fn.state p || differ (bit_of l.fn.first p) (bit_of l.fn.second p));
  rest : (i : ℕ) → l.k ≤ i → get_or l.state i 0 ≡ get_or l.fn.state i 0;
}
