use Rattle.std.proofs.Common.{◌≡◌, length, arith}
use Rattle.std.proofs.lemmas.Bool.Decides.{nat_tests}
use Rattle.std.specs.Prelude.{◌==◌}
use Rattle.bsi_kernels.specs.Places.{then_places}
use Rattle.bsi_kernels.proofs.MarkBits.{marked_none, marks_of}
use Rattle.bsi_kernels.proofs.marks.one_hot_digits.Goals as goal

-- no digit marks nothing
pub returns-then-is_empty-clause-marks : goal.returns-then-is_empty-clause-marks
returns-then-is_empty-clause-marks c =
    let none : 0 ≡ length c.args.block.now = grind (arith, nat_tests, c.if-is_empty.ensures) in
    let holds = then_places c.args.base (λ j v. v == j) in
    marks_of holds 0 c.args.block.now c.args.words.now none (omega arith) (marked_none holds c.args.block.now c.args.words.now c.requires.clear)
