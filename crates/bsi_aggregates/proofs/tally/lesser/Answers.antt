use Rattle.std.proofs.Common.{◌≡◌, ◌∷◌, [], ◌++◌, true, false, SFits, w64, ap₂, sym, subst, ◌∙◌, rules, to_z-of_z}
use Rattle.std.specs.Prelude.{int_lt}
use Rattle.bsi_digits.specs.Orders.{IsLeastBy}
use Rattle.bsi_digits.specs.WholeNumbers.{signed_order, IsSignedLeastOf}
use Rattle.bsi_aggregates.proofs.Tallied.{new_least, still_least}
use Rattle.bsi_aggregates.proofs.tally.lesser.Goals as goal

pub returns-in-Some : goal.returns-in-Some
returns-in-Some c numbers is =
    let fits : SFits w64 c.in-Some.least = search rules in
    let selection : int_lt c.in-Some.least c.args.number ≡ true = sym (ap₂ int_lt (to_z-of_z fits) (to_z-of_z c.ranges.number)) ∙ c.if-least-number.true in
    subst (IsLeastBy signed_order (numbers ++ c.args.number ∷ [])) (sym (to_z-of_z fits))
    (still_least numbers c.in-Some.least c.args.number (subst (IsSignedLeastOf numbers) c.in-Some.is is) selection)

pub returns-in_default : goal.returns-in_default
returns-in_default c numbers is =
    let fits : SFits w64 c.in-Some.least = search rules in
    let selection : int_lt c.in-Some.least c.args.number ≡ false = sym (ap₂ int_lt (to_z-of_z fits) (to_z-of_z c.ranges.number)) ∙ c.if-least-number.false in
    subst (IsLeastBy signed_order (numbers ++ c.args.number ∷ [])) (sym (to_z-of_z c.ranges.number))
    (new_least numbers c.in-Some.least c.args.number (subst (IsSignedLeastOf numbers) c.in-Some.is is) selection)
