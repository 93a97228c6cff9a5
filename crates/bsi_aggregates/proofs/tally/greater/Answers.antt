use Rattle.std.proofs.Common.{◌≡◌, ◌∷◌, [], ◌++◌, true, false, SFits, w64, ap₂, sym, subst, ◌∙◌, rules, to_z-of_z}
use Rattle.std.specs.Prelude.{int_lt}
use Rattle.bsi_digits.specs.Orders.{IsGreatestBy}
use Rattle.bsi_digits.specs.WholeNumbers.{signed_order, IsSignedGreatestOf}
use Rattle.bsi_aggregates.proofs.Tallied.{new_greatest, still_greatest}
use Rattle.bsi_aggregates.proofs.tally.greater.Goals as goal

pub returns-in-Some : goal.returns-in-Some
returns-in-Some c numbers is =
    let fits : SFits w64 c.in-Some.greatest = search rules in
    let selection : int_lt c.args.number c.in-Some.greatest ≡ true = sym (ap₂ int_lt (to_z-of_z c.ranges.number) (to_z-of_z fits)) ∙ c.if-greatest-number.true in
    subst (IsGreatestBy signed_order (numbers ++ c.args.number ∷ [])) (sym (to_z-of_z fits))
    (still_greatest numbers c.in-Some.greatest c.args.number (subst (IsSignedGreatestOf numbers) c.in-Some.is is) selection)

pub returns-in_default : goal.returns-in_default
returns-in_default c numbers is =
    let fits : SFits w64 c.in-Some.greatest = search rules in
    let selection : int_lt c.args.number c.in-Some.greatest ≡ false = sym (ap₂ int_lt (to_z-of_z c.ranges.number) (to_z-of_z fits)) ∙ c.if-greatest-number.false in
    subst (IsGreatestBy signed_order (numbers ++ c.args.number ∷ [])) (sym (to_z-of_z c.ranges.number))
    (new_greatest numbers c.in-Some.greatest c.args.number (subst (IsSignedGreatestOf numbers) c.in-Some.is is) selection)
