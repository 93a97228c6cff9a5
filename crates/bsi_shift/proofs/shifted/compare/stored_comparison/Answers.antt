use Rattle.std.proofs.Common.{ap, ap₂, subst, sym, ◌∙◌, rules, pos}
use mir.Syntax.{w64, w128}
use lib.Signed.{lt_z}
use Rattle.std.specs.Int.{FitsUnsigned, saturate_signed}
use Rattle.std.specs.Prelude.{◌-ℤ◌, OkIff, unsigned_abs}
use Rattle.std.proofs.lemmas.Int.{to_z-of_z}
use Rattle.bsi_digits.specs.Offsets.{number_of}
use Rattle.bsi_shift.proofs.Comparing.{before, compared_after}
use Rattle.bsi_shift.proofs.shifted.compare.stored_comparison.Goals as goal

pub returns-then-above-lt0 : goal.returns-then-above-lt0
returns-then-above-lt0 c =
    let above = c.saturating_sub-above.result in
    let same = to_z-of_z w128 above (search rules) in
    let from_is = to_z-of_z w128 c.from.result (search rules) ∙ c.from.ensures ∙ to_z-of_z w64 c.args.offset c.ranges.offset in
    let above_is = c.saturating_sub-above.ensures ∙ ap₂ (λ a b. saturate_signed w128 (a -ℤ b)) (to_z-of_z w128 c.args.constant c.ranges.constant) from_is in
    λ n small. c.below_all-op.ensures n (number_of c.args.offset n) c.args.constant
    (before c.args.offset c.args.constant above c.ranges.offset c.ranges.constant above_is (ap (λ z. lt_z z (pos 0)) (sym same) ∙ c.if-above-lt0.true) n)

pub returns : goal.returns
returns c =
    let above = c.saturating_sub-above.result in
    let same = to_z-of_z w128 above (search rules) in
    let from_is = to_z-of_z w128 c.from.result (search rules) ∙ c.from.ensures ∙ to_z-of_z w64 c.args.offset c.ranges.offset in
    let above_is = c.saturating_sub-above.ensures ∙ ap₂ (λ a b. saturate_signed w128 (a -ℤ b)) (to_z-of_z w128 c.args.constant c.ranges.constant) from_is in
    let converted = subst (λ z. OkIff c.try_from.result (FitsUnsigned w64 z) (unsigned_abs z)) same c.try_from.ensures in
    compared_after c.args.offset c.args.constant above c.ranges.offset c.ranges.constant above_is c.args.op c.try_from.result c.unwrap_or-constant.result
    (ap (λ z. lt_z z (pos 0)) (sym same) ∙ c.if-above-lt0.false) converted c.unwrap_or-constant.ensures
