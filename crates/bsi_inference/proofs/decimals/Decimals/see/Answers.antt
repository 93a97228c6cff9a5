use Rattle.std.proofs.Common.{◌≡◌, ℕ, List, Option, Some, true, is_some, IsTrue, subst, sym}
use Rattle.bsi_inference.specs.Decimals.{number_by, IsSeenBy}
use Rattle.bsi_inference.specs.Seen.{CoversSome}
use Rattle.bsi_inference.proofs.decimals.Decimals.see.Goals as goal

pub returns-in-Some-clause-accepts : goal.returns-in-Some-clause-accepts
returns-in-Some-clause-accepts c =
    subst (λ (r : Option ℕ). CoversSome c.see_rounded.result.0 (λ n. number_by r c.args.point c.args.places c.args.field.now ≡ Some n)) (sym c.in-Some.is) c.see_rounded.ensures.accepts

pub returns-in-Some-clause-preserved : goal.returns-in-Some-clause-preserved
returns-in-Some-clause-preserved c =
    subst (λ (r : Option ℕ). (f : List ℕ) → CoversSome c.args.self.seen (λ n. number_by r c.args.point c.args.self.places f ≡ Some n)
    → CoversSome c.see_rounded.result.0 (λ n. number_by r c.args.point c.args.places f ≡ Some n)) (sym c.in-Some.is) c.see_rounded.ensures.preserved

pub returns-in-Some-clause-seen : goal.returns-in-Some-clause-seen
returns-in-Some-clause-seen c =
    subst (λ (r : Option ℕ). IsSeenBy r c.args.point c.args.field.now c.args.self c.args.places c.see_rounded.result.0) (sym c.in-Some.is) c.see_rounded.ensures.seen

pub returns-in-Some-clause-read : goal.returns-in-Some-clause-read
returns-in-Some-clause-read c =
    subst (λ (r : Option ℕ). c.see_rounded.result.1 ≡ true → IsTrue (is_some (number_by r c.args.point c.args.places c.args.field.now))) (sym c.in-Some.is) c.see_rounded.ensures.read

pub returns-in-None-clause-accepts : goal.returns-in-None-clause-accepts
returns-in-None-clause-accepts c =
    subst (λ (r : Option ℕ). CoversSome c.see_scaled.result.0 (λ n. number_by r c.args.point c.args.places c.args.field.now ≡ Some n)) (sym c.in-None.is) c.see_scaled.ensures.accepts

pub returns-in-None-clause-preserved : goal.returns-in-None-clause-preserved
returns-in-None-clause-preserved c =
    subst (λ (r : Option ℕ). (f : List ℕ) → CoversSome c.args.self.seen (λ n. number_by r c.args.point c.args.self.places f ≡ Some n)
    → CoversSome c.see_scaled.result.0 (λ n. number_by r c.args.point c.args.places f ≡ Some n)) (sym c.in-None.is) c.see_scaled.ensures.preserved

pub returns-in-None-clause-seen : goal.returns-in-None-clause-seen
returns-in-None-clause-seen c =
    subst (λ (r : Option ℕ). IsSeenBy r c.args.point c.args.field.now c.args.self c.args.places c.see_scaled.result.0) (sym c.in-None.is) c.see_scaled.ensures.seen

pub returns-in-None-clause-read : goal.returns-in-None-clause-read
returns-in-None-clause-read c =
    subst (λ (r : Option ℕ). c.see_scaled.result.1 ≡ true → IsTrue (is_some (number_by r c.args.point c.args.places c.args.field.now))) (sym c.in-None.is) c.see_scaled.ensures.read
