use Rattle.std.proofs.Common.{◌≡◌, ℕ, ◌<◌, map, ap, ap₂, sym, ◌∙◌, rules, arith}
use mir.Syntax.{w64, w128}
use Rattle.std.proofs.lemmas.Int.{to_z-of_z}
use Rattle.std.proofs.lemmas.Result.{IfOk-weaker}
use Rattle.bsi_columns.specs.AnyColumns.{any_entries}
use Rattle.bsi_digits.specs.Offsets.{number_of}
use Rattle.bsi_digits.specs.Orders.{compares_by}
use Rattle.bsi_digits.specs.Comparisons.{number_order, selects}
use Rattle.bsi_digits.specs.WholeNumbers.{signed_order, signed_selects}
use Rattle.bsi_shift.specs.Shifted.{shifted_entries}
use Rattle.bsi_shift.proofs.Shifting.{entries_from, shifted_entries-is, selected_from}
use Rattle.bsi_shift.proofs.shifted.Shifted.compare.Goals as goal

pub returns : goal.returns
returns c =
    let inside = c.self.inside in
    let chosen = c.stored_comparison-comparison.result in
    let agree : (n : ℕ) → n < inside.size → compares_by number_order chosen.op n chosen.constant ≡ compares_by signed_order c.args.op (number_of inside.offset n) c.args.constant = λ n below.
    c.stored_comparison-comparison.ensures n (omega (arith, below, c.self.invariant.small))
    ∙ ap₂ (λ o k. compares_by signed_order c.args.op (number_of o n) k) (to_z-of_z w64 inside.offset (search rules)) (to_z-of_z w128 c.args.constant c.ranges.constant) in
    let same = selected_from inside.offset c.args.constant c.args.op chosen.op chosen.constant inside.size agree (any_entries inside.stored) c.self.invariant.below
    ∙ ap (λ v. map (signed_selects c.args.op c.args.constant) (entries_from v.offset (any_entries v.stored))) c.self.view_is
    ∙ ap (map (signed_selects c.args.op c.args.constant)) (sym (shifted_entries-is c.args.self.now)) in
    IfOk-weaker c.compare.result (λ b. b.bits ≡ map (selects chosen.op chosen.constant) (any_entries inside.stored)) (λ b. b.bits ≡ map (signed_selects c.args.op c.args.constant) (shifted_entries c.args.self.now))
    (λ b is. is ∙ same) c.compare.ensures
