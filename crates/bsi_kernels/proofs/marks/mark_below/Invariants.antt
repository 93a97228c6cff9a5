use Rattle.std.proofs.Common.{◌≡◌, ℕ, ◌<◌, ◌≤◌, get_or}
use Rattle.bsi_kernels.specs.Marks.{union_of}
use Rattle.bsi_kernels.proofs.marks.mark_below.Given as goal

abbrev pub invariant-words : goal.invariant-words
invariant-words l = record {
  union_is : l.union ≡ union_of l.fn.words 0 l.word-index;
  done : (i : ℕ) → i < l.word-index → get_or l.word-items i 0 ≡ union_of l.fn.words 0 i;
  rest : (i : ℕ) → l.word-index ≤ i → i < l.count → get_or l.word-items i 0 ≡ get_or l.fn.words i 0;
}
