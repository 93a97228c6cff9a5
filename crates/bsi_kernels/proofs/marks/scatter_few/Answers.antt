use Rattle.std.proofs.Common.{◌≡◌, ◌-◌, ◌*◌, ◌%◌, ◌^◌, length, ap, arith}
use Rattle.std.proofs.lemmas.Nat.{one_shl}
use Rattle.bsi_kernels.proofs.ShortBlocks.{filled_below, filled_long, filled_same, filled_zero, short_marks}
use Rattle.bsi_kernels.proofs.marks.scatter_few.Goals as goal

pub scatter_digits-requires-clause-below : goal.scatter_digits-requires-clause-below
scatter_digits-requires-clause-below c = λ k within.
    filled_below c.args.block.now c.copy_from_slice.new.self c.copy_from_slice.ensures.after c.requires.short c.args.base c.requires.some c.requires.below k

pub returns-clause-marks : goal.returns-clause-marks
returns-clause-marks c =
    let n = length c.args.block.now in
    let mask : 1 * 2 ^ n % 2 ^ 64 - 1 ≡ 2 ^ n - 1 = ap (λ m. m - 1) (one_shl n 64 c.requires.short) in
    let before : c.copy_from_slice.new.self ≡ c.args.block.now = c.copy_from_slice.ensures.after in
    short_marks c.args.base c.args.block.now _ c.scatter_digits.new.words (filled_long c.args.block.now c.copy_from_slice.new.self before c.requires.short) c.requires.short
    (omega (arith, c.scatter_digits.ensures.long, c.requires.within, c.requires.below 0 c.requires.some))
    (filled_same c.args.block.now c.copy_from_slice.new.self before c.requires.short)
    (filled_zero c.args.block.now c.copy_from_slice.new.self before c.requires.short) c.scatter_digits.ensures.marks _ mask
