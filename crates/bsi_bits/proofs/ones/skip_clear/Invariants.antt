use Rattle.std.proofs.Common.{◌≡◌, ℕ, ◌-◌, ◌≤◌, ◌<◌, length, get_or}
use Rattle.bsi_bits.proofs.ones.skip_clear.Given as goal

abbrev pub invariant-words : goal.invariant-words
invariant-words l = record {
  forward : l.at ≤ l.next;
  within : l.next ≤ length l.words;
  clear : (k : ℕ) → l.at ≤ k → k < l.next → get_or l.words k 0 ≡ 0;
}

abbrev pub decreases-words : goal.decreases-words
decreases-words l = length l.words - l.next
