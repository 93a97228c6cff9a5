use Rattle.std.proofs.Common.{◌≡◌, ◌%◌, length, map}
use Rattle.bsi_digits.specs.Digits.{weight}
use Rattle.bsi_digits.specs.Comparisons.{number_or_zero}
use Rattle.bsi_slices.specs.Decisions.{relates}
use Rattle.bsi_columns.proofs.decomposed.Decomposed.narrow_vectors.Given as goal

abbrev pub invariant-loop-i : goal.invariant-loop-i
invariant-loop-i g l = record {
  selection : l.selection.bits ≡ map (λ e. relates l.test.relation (number_or_zero e % weight l.self.bases l.i) (l.test.constant % weight l.self.bases l.i)) l.self.entries;
  scratch : length l.scratch.bits ≡ length l.self.entries;
}
