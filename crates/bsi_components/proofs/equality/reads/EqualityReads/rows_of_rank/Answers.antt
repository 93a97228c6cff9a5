use Rattle.std.proofs.Common.{◌<◌, length, ap, arith}
use Rattle.std.specs.Prelude.{count_by}
use Rattle.std.proofs.lemmas.Bool.Decides.{nat_tests}
use Rattle.bsi_components.proofs.SelectedDigits.{digit_below}
use Rattle.bsi_components.proofs.equality.reads.EqualityReads.rows_of_rank.Goals as goal

-- a row has the digit, so it is below the base
pub returns-else-is_empty-clause-digit : goal.returns-else-is_empty-clause-digit
returns-else-is_empty-clause-digit c =
    let digits = c.args.component.now.digits in
    let selection = c.args.selection.bits in
    let some : 0 < length c.places-places.result.now = grind (arith, nat_tests, c.is_empty.ensures, c.if-is_empty.false) in
    let ranked = c.rows_of_rank.ensures.ranked digits c.places-places.ensures.places (c.places-places.ensures.below some) c.requires.same in
    let rows = ap (count_by (λ b. b)) ranked.rows_are in
    digit_below c.rows_of_rank.result.number c.args.component.now.base selection digits c.places-places.ensures.digits
    (omega (arith, ranked.there, rows))
