use Rattle.std.proofs.Common.{◌≡◌, ℕ, ◌<◌, ◌+◌, ◌*◌, ◌&&◌, length, get_or, ap, ap₂, sym, ◌∙◌, rules, arith}
use Rattle.std.specs.Prelude.{None, Option}
use mir.Syntax.{w64, w128}
use Rattle.std.proofs.lemmas.Int.{to_z-of_z}
use Rattle.bsi_bits.specs.Packed.{bit_of}
use Rattle.bsi_columns.specs.AnyColumns.{any_entries}
use Rattle.bsi_digits.specs.Offsets.{number_of}
use Rattle.bsi_digits.specs.Orders.{compares_by}
use Rattle.bsi_digits.specs.Comparisons.{number_order, number_or_zero}
use Rattle.bsi_digits.specs.WholeNumbers.{signed_order, signed_selects}
use Rattle.bsi_shift.specs.Shifted.{shifted_entries}
use Rattle.bsi_columns.proofs.EntryReads.{all_read}
use Rattle.bsi_shift.proofs.Shifting.{entry_from, length-shifted_entries, selected_one}
use Rattle.bsi_shift.proofs.shifted.Shifted.and_compare.Goals as goal

pub and_compare-requires-clause-within : goal.and_compare-requires-clause-within
and_compare-requires-clause-within c =
    let long = ap (λ v. length (any_entries v.stored)) c.self.view_is ∙ sym (length-shifted_entries c.args.self.now) in
    omega (arith, c.requires.within, long)

pub returns : goal.returns
returns c =
    let inside = c.self.inside in
    let stored = any_entries inside.stored in
    let chosen = c.stored_comparison-comparison.result in
    let agree : (n : ℕ) → n < inside.size → compares_by number_order chosen.op n chosen.constant ≡ compares_by signed_order c.args.op (number_of inside.offset n) c.args.constant = λ n below.
    c.stored_comparison-comparison.ensures n (omega (arith, below, c.self.invariant.small))
    ∙ ap₂ (λ o k. compares_by signed_order c.args.op (number_of o n) k) (to_z-of_z w64 inside.offset (search rules)) (to_z-of_z w128 c.args.constant c.ranges.constant) in
    λ (p : ℕ) (below : p < 64 * length c.args.span.now).
    let r : ℕ = 64 * c.args.at + p in
    let e : Option ℕ = get_or stored r None in
    let small : number_or_zero e < inside.size = all_read (λ e. number_or_zero e < inside.size) stored r (omega (arith, c.self.invariant.some)) c.self.invariant.below in
    c.and_compare.ensures p below
    ∙ ap (◌&&◌ (bit_of c.args.span.now p))
    (selected_one inside.offset c.args.constant c.args.op chosen.op chosen.constant inside.size agree e small
    ∙ ap (signed_selects c.args.op c.args.constant) (sym (entry_from (record { stored = inside.stored; offset = inside.offset }) r))
    ∙ ap (λ v. signed_selects c.args.op c.args.constant (get_or (shifted_entries v) r None)) c.self.view_is)
