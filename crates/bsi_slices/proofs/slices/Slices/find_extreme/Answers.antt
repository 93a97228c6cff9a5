use Rattle.std.proofs.Common.{ℕ, ◌+◌, ◌-◌, ◌*◌, ◌/◌, length, arith}
use Rattle.bsi_slices.proofs.ExtremeRows.{extreme_all}
use Rattle.bsi_slices.proofs.slices.Slices.find_extreme.Goals as goal

-- the spans and the words after them are all words
pub returns : goal.returns
returns c =
    let words : ℕ = (length c.args.selection.now.bits + 63) / 64 in
    let whole : ℕ = length c.words.result.now / 16 * 16 in
    extreme_all c.args.selection.now.bits c.args.self.now.entries (64 * (whole + 1 * ((words - whole) / 1))) c.requires (omega (arith, c.words.ensures.few)) c.args.extreme c.extreme_upto.result c.extreme_upto.ensures
