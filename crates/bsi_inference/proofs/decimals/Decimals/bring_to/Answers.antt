use Rattle.std.proofs.Common.{◌≡◌, ℕ, List, Option, Some, refl, subst, sym}
use Rattle.bsi_inference.specs.Decimals.{number_by, IsBroughtBy}
use Rattle.bsi_inference.specs.Seen.{CoversSome}
use Rattle.bsi_inference.proofs.decimals.Decimals.bring_to.Goals as goal

pub returns-in-Some-clause-preserved : goal.returns-in-Some-clause-preserved
returns-in-Some-clause-preserved c =
    subst (λ (r : Option ℕ). (point : ℕ) → (f : List ℕ) → CoversSome c.args.self.seen (λ n. number_by r point c.args.self.places f ≡ Some n)
    → CoversSome c.args.self.seen (λ n. number_by r point c.args.places f ≡ Some n)) (sym c.in-Some.is) (λ point f accepted. accepted)

pub returns-in-Some-clause-brought : goal.returns-in-Some-clause-brought
returns-in-Some-clause-brought c = subst (λ (r : Option ℕ). IsBroughtBy r c.args.places c.args.self c.args.self.seen) (sym c.in-Some.is) refl

pub returns-in-None-clause-preserved : goal.returns-in-None-clause-preserved
returns-in-None-clause-preserved c =
    subst (λ (r : Option ℕ). (point : ℕ) → (f : List ℕ) → CoversSome c.args.self.seen (λ n. number_by r point c.args.self.places f ≡ Some n)
    → CoversSome c.scale_to.result (λ n. number_by r point c.args.places f ≡ Some n)) (sym c.in-None.is) c.scale_to.ensures.preserved

pub returns-in-None-clause-brought : goal.returns-in-None-clause-brought
returns-in-None-clause-brought c = subst (λ (r : Option ℕ). IsBroughtBy r c.args.places c.args.self c.scale_to.result) (sym c.in-None.is) c.scale_to.ensures.brought
