use Rattle.std.proofs.Common.{ℕ, ◌≤◌, ◌<◌, ◌^◌, length, ap, arith}
use Rattle.std.proofs.lemmas.Nat.{one_shl}
use Rattle.std.proofs.Math.Pow.{pow_mono}
use Rattle.bsi_slices.proofs.SliceEntries.{entries_below}
use Rattle.bsi_slices.proofs.slices.SlicesColumn.size.Goals as goal

pub returns-clause-within : goal.returns-clause-within
returns-clause-within c =
    let width : ℕ = length c.as_slice.result.now in
    let few : width < 64 = omega (arith, ap length c.as_slice.ensures.vectors, c.self.invariant.few) in
    let least : 2 ^ 1 ≤ 2 ^ width = pow_mono {i = 1} {j = width} (omega (arith, c.as_slice.ensures.some)) in
    let most : 2 ^ width ≤ 2 ^ 63 = pow_mono {i = width} {j = 63} (omega (arith, few)) in
    rw (one_shl width 64 few) (least, most)

pub returns-clause-below : goal.returns-clause-below
returns-clause-below c = rw (← c.self.view_is) (entries_below c.self.inside.not_null.bits c.self.inside.slices.vectors)
