use Rattle.std.proofs.Common.{◌<◌, length, get_or, length-set, ◌∙◌, refl, arith}
use Rattle.bsi_kernels.proofs.MarkBits.{marked_more, marked_none, marks_of}
use Rattle.std.specs.Prelude.{◌==◌}
use Rattle.bsi_kernels.proofs.marks.mark.Goals as goal

pub digits-init : goal.digits-init
digits-init c = record { long = refl; marked = marked_none (λ j v. v == j) c.args.block.now c.args.words.now c.requires.clear }

pub digits-preserved : goal.digits-preserved
digits-preserved c =
    let d = get_or c.args.block.now c.digits.k 0 in
    let inside : d < length c.digits.words = omega (arith, c.requires.below c.digits.k c.digits-test.true, c.digits.invariant.long) in
    record {
      long = length-set c.digits.words d _ ∙ c.digits.invariant.long;
      marked = marked_more c.digits.k d (get_or c.digits.words d 0) c.args.block.now c.digits.words (omega (arith, c.digits-test.true, c.requires.few)) inside refl refl c.digits.invariant.marked;
    }

pub returns-clause-marks : goal.returns-clause-marks
returns-clause-marks c =
    marks_of (λ j v. v == j) c.digits.k c.args.block.now c.digits.words (omega (arith, c.digits-test.false, c.digits.auto.k-end)) (omega (arith, c.requires.few, c.digits.auto.k-end)) c.digits.invariant.marked
