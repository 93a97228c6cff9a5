use Rattle.std.proofs.Common.{length, ap, sym, ◌∙◌, subst, rules, Some, None, refl, arith}
use Rattle.std.specs.Option.{option_map}
use Rattle.std.specs.Prelude.{◌<◌, ◌<ℤ◌, ◌^◌, pos}
use Rattle.std.proofs.lemmas.Int.{to_z-of_z}
use mir.Syntax.{w64}
use Rattle.bsi_columns.specs.AnyColumns.{any_entries}
use Rattle.bsi_digits.specs.Offsets.{number_of}
use Rattle.bsi_digits.specs.Orders.{values_at}
use Rattle.bsi_digits.specs.Ranks.{IsSignedRankOf}
use Rattle.bsi_shift.proofs.Shifting.{length-shifted_entries, fits}
use Rattle.bsi_shift.proofs.Totals.{answer_from, past_from, ranked_from, ranked_below}
use Rattle.bsi_shift.proofs.shifted.Shifted.ranked.Goals as goal

pub count_numbers-count-requires : goal.count_numbers-count-requires
count_numbers-count-requires c = ap (λ v. length (any_entries v.stored)) c.self.view_is ∙ sym (length-shifted_entries c.args.self.now) ∙ c.requires

pub returns-then-count-rank : goal.returns-then-count-rank
returns-then-count-rank c =
    let inside = c.self.inside in
    let selection = c.args.selection.now.bits in
    answer_from (IsSignedRankOf c.args.rank) inside.offset inside.stored c.args.self.now selection None None c.self.view_is refl
    (past_from inside.offset c.args.rank (values_at selection (any_entries inside.stored)) (omega (arith, c.if-count-rank.true, c.count_numbers-count.ensures)))

pub ranked-requires-clause-same : goal.ranked-requires-clause-same
ranked-requires-clause-same c = ap (λ v. length (any_entries v.stored)) c.self.view_is ∙ sym (length-shifted_entries c.args.self.now) ∙ c.requires

pub number_from-requires : goal.number_from-requires
number_from-requires c =
    let inside = c.self.inside in
    let number = c.in_ok-number.number in
    let below = ranked_below inside.size c.args.selection.now.bits (any_entries inside.stored) c.self.invariant.below c.args.rank number c.in_ok-number.ensures in
    subst (λ o. (number < 2 ^ 63) × (number_of o number <ℤ pos (2 ^ 63))) (sym (to_z-of_z w64 inside.offset (search rules)))
    (fits inside.offset inside.size c.self.invariant.small c.self.invariant.within (Some number) below)

pub returns : goal.returns
returns c =
    let inside = c.self.inside in
    let selection = c.args.selection.now.bits in
    let number = c.in_ok-number.number in
    answer_from (IsSignedRankOf c.args.rank) inside.offset inside.stored c.args.self.now selection (Some number) c.number_from.result c.self.view_is
    (c.number_from.ensures ∙ ap (λ o. option_map (number_of o) (Some number)) (to_z-of_z w64 inside.offset (search rules)))
    (ranked_from inside.offset c.args.rank (values_at selection (any_entries inside.stored)) number c.in_ok-number.ensures)
