use Rattle.std.proofs.Common.{length, ap, sym, ◌∙◌, subst, rules}
use Rattle.std.specs.Option.{option_map}
use Rattle.std.specs.Prelude.{◌<◌, ◌<ℤ◌, ◌^◌, pos, IfSome}
use Rattle.std.proofs.lemmas.Int.{to_z-of_z}
use mir.Syntax.{w64}
use Rattle.bsi_columns.specs.AnyColumns.{any_entries}
use Rattle.bsi_digits.specs.Offsets.{number_of}
use Rattle.bsi_digits.specs.Orders.{values_at}
use Rattle.bsi_digits.specs.WholeNumbers.{IsSignedGreatestOf}
use Rattle.bsi_shift.proofs.Shifting.{length-shifted_entries, fits}
use Rattle.bsi_shift.proofs.Totals.{answer_from, greatest_from, greatest_below}
use Rattle.bsi_shift.proofs.shifted.Shifted.greatest.Goals as goal

pub greatest-requires : goal.greatest-requires
greatest-requires c = ap (λ v. length (any_entries v.stored)) c.self.view_is ∙ sym (length-shifted_entries c.args.self.now) ∙ c.requires

pub number_from-requires : goal.number_from-requires
number_from-requires c =
    let inside = c.self.inside in
    let entry = c.in_ok-greatest.field-0 in
    let below = greatest_below inside.size c.args.selection.now.bits (any_entries inside.stored) c.self.invariant.below entry c.in_ok-greatest.ensures.greatest in
    subst (λ o. IfSome entry (λ n. (n < 2 ^ 63) × (number_of o n <ℤ pos (2 ^ 63)))) (sym (to_z-of_z w64 inside.offset (search rules)))
    (fits inside.offset inside.size c.self.invariant.small c.self.invariant.within entry below)

pub returns-clause-greatest : goal.returns-clause-greatest
returns-clause-greatest c =
    let inside = c.self.inside in
    let selection = c.args.selection.now.bits in
    let entry = c.in_ok-greatest.field-0 in
    answer_from IsSignedGreatestOf inside.offset inside.stored c.args.self.now selection entry c.number_from.result c.self.view_is
    (c.number_from.ensures ∙ ap (λ o. option_map (number_of o) entry) (to_z-of_z w64 inside.offset (search rules)))
    (greatest_from inside.offset (values_at selection (any_entries inside.stored)) entry c.in_ok-greatest.ensures.greatest)
