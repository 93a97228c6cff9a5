use Rattle.std.proofs.Common.{◌≡◌, ℕ, ◌<◌, get_or}
use Rattle.bsi_bits.proofs.lanes.is_clear.Given as goal

abbrev pub invariant-words : goal.invariant-words
invariant-words l = record {
  none : l.seen ≡ 0 → (k : ℕ) → k < l.word-index → get_or l.words k 0 ≡ 0;
  empty : ((k : ℕ) → get_or l.words k 0 ≡ 0) → l.seen ≡ 0;
}
