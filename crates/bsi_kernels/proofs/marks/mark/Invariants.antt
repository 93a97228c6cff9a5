use Rattle.std.proofs.Common.{◌≡◌, length}
use Rattle.std.specs.Prelude.{◌==◌}
use Rattle.bsi_kernels.proofs.MarkBits.{Marked}
use Rattle.bsi_kernels.proofs.marks.mark.Given as goal

abbrev pub invariant-digits : goal.invariant-digits
invariant-digits l = record {
  long : length l.words ≡ length l.fn.words;
  marked : Marked (λ j v. v == j) l.k l.block l.words;
}
