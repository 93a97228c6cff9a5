use Rattle.std.proofs.Common.{◌-◌, ◌≤◌, ◌^◌, length, arith}
use Rattle.std.proofs.Math.Nat.{pow-le-pow_right}
use Rattle.bsi_kernels.proofs.MarkBits.{zeros}
use Rattle.bsi_kernels.proofs.marks.mark_each.Goals as goal

pub mark_places-requires-clause-ample : goal.mark_places-requires-clause-ample
mark_places-requires-clause-ample c =
    let few : length c.mark.new.words - c.args.base ≤ 10 = omega (arith, c.requires.count.few, c.mark.ensures.long) in
    let most : 2 ^ (length c.mark.new.words - c.args.base) ≤ 2 ^ 10 = pow-le-pow_right (omega arith) few in
    most

pub mark_places-requires-then-places-gt0-clause-ample : goal.mark_places-requires-then-places-gt0-clause-ample
mark_places-requires-then-places-gt0-clause-ample c =
    let few : length c.mark.new.words - c.args.base ≤ 7 = omega arith in
    let most : 2 ^ (length c.mark.new.words - c.args.base) ≤ 2 ^ 7 = pow-le-pow_right (omega arith) few in
    most

pub mark_places-requires-clause-clear : goal.mark_places-requires-clause-clear
mark_places-requires-clause-clear c = zeros 1024

pub mark_places-requires-then-places-gt0-clause-clear : goal.mark_places-requires-then-places-gt0-clause-clear
mark_places-requires-then-places-gt0-clause-clear c = zeros 128
