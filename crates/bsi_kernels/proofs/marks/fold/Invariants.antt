use Rattle.std.proofs.Common.{◌≡◌, ℕ, ◌+◌, ◌<◌, ◌≤◌, length, get_or}
use Rattle.std.specs.Prelude.{bit_or}
use Rattle.bsi_kernels.specs.Marks.{union_of}
use Rattle.bsi_kernels.proofs.marks.fold.Given as goal

abbrev pub invariant-words : goal.invariant-words
invariant-words l = record {
  long : length l.words ≡ length l.fn.words;
  upper_is : l.upper ≡ union_of l.fn.words l.half l.j;
  done : (i : ℕ) → i < l.j → get_or l.words i 0 ≡ bit_or (get_or l.fn.words i 0) (get_or l.fn.words (l.half + i) 0);
  rest : (i : ℕ) → l.j ≤ i → get_or l.words i 0 ≡ get_or l.fn.words i 0;
}
