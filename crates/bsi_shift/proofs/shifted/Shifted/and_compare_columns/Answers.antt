use Rattle.std.proofs.Common.{◌+◌, ◌*◌, ◌<◌, ◌&&◌, None, length, get_or, ap, ap₂, sym, ◌∙◌, rules, arith}
use mir.Syntax.{w64}
use Rattle.std.proofs.lemmas.Int.{to_z-of_z}
use Rattle.bsi_bits.specs.Packed.{bit_of}
use Rattle.bsi_columns.specs.AnyColumns.{any_entries}
use Rattle.bsi_columns.proofs.EntryReads.{all_read}
use Rattle.bsi_digits.specs.Offsets.{number_of}
use Rattle.bsi_digits.specs.Orders.{compares_by}
use Rattle.bsi_digits.specs.Comparisons.{number_or_zero}
use Rattle.bsi_digits.specs.WholeNumbers.{signed_order, signed_relates}
use Rattle.bsi_shift.specs.Shifted.{shifted_entries}
use Rattle.bsi_shift.proofs.ColumnComparisons.{relates_shifted}
use Rattle.bsi_shift.proofs.Shifting.{entry_from, length-shifted_entries}
use Rattle.bsi_shift.proofs.shifted.Shifted.and_compare_columns.Goals as goal

pub and_compare_columns-requires-clause-within : goal.and_compare_columns-requires-clause-within
and_compare_columns-requires-clause-within c =
    let long = ap (λ v. length (any_entries v.stored)) c.self.view_is ∙ sym (length-shifted_entries c.args.self.now) in
    omega (arith, c.requires.within, long)

pub and_compare_columns-requires-clause-same : goal.and_compare_columns-requires-clause-same
and_compare_columns-requires-clause-same c =
    let long = ap (λ v. length (any_entries v.stored)) c.self.view_is ∙ sym (length-shifted_entries c.args.self.now) in
    let other_long = ap (λ v. length (any_entries v.stored)) c.other.view_is ∙ sym (length-shifted_entries c.args.other.now) in
    omega (arith, c.requires.same, long, other_long)

pub returns : goal.returns
returns c = λ p below.
    let r = 64 * c.args.at + p in
    let one = c.self.inside in
    let two = c.other.inside in
    let first : number_or_zero (get_or (any_entries one.stored) r None) < one.size = all_read (λ e. number_or_zero e < one.size) (any_entries one.stored) r (omega (arith, c.self.invariant.some)) c.self.invariant.below in
    let second : number_or_zero (get_or (any_entries two.stored) r None) < two.size = all_read (λ e. number_or_zero e < two.size) (any_entries two.stored) r (omega (arith, c.other.invariant.some)) c.other.invariant.below in
    c.and_compare_columns.ensures p below
    ∙ ap (◌&&◌ (bit_of c.args.span.now p))
    (relates_shifted c.args.op one.offset two.offset one.size two.size c.column_comparison-comparison.result
    (λ x y low high.
    c.column_comparison-comparison.ensures.agree x y (omega (arith, low, c.self.invariant.small)) (omega (arith, high, c.other.invariant.small))
    ∙ ap₂ (λ a b. compares_by signed_order c.args.op (number_of a x) (number_of b y)) (to_z-of_z w64 one.offset (search rules)) (to_z-of_z w64 two.offset (search rules)))
    (get_or (any_entries one.stored) r None) (get_or (any_entries two.stored) r None) first second
    ∙ ap₂ (signed_relates c.args.op)
    (sym (entry_from (record { stored = one.stored; offset = one.offset }) r) ∙ ap (λ v. get_or (shifted_entries v) r None) c.self.view_is)
    (sym (entry_from (record { stored = two.stored; offset = two.offset }) r) ∙ ap (λ v. get_or (shifted_entries v) r None) c.other.view_is))
