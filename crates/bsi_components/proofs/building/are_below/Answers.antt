use Rattle.std.proofs.Common.{◌≡◌, ℕ, ◌<◌, true, false, ap, sym, ◌∙◌, arith}
use Rattle.std.specs.Prelude.{◌==◌, count_by}
use Rattle.std.proofs.lemmas.Bool.Decides.{nat_tests}
use Rattle.bsi_components.specs.PlaceNumbers.{numbers_in}
use Rattle.bsi_components.proofs.PlaceNumbers.{all_below, one_past}
use Rattle.bsi_components.proofs.building.are_below.Goals as goal

is_zero : (n : ℕ) → (n == 0) ≡ true → n ≡ 0
is_zero n on = grind (arith, nat_tests)

is_more : (n : ℕ) → (n == 0) ≡ false → 0 < n
is_more n off = grind (arith, nat_tests)

pub returns-clause-all : goal.returns-clause-all
returns-clause-all c = λ all.
    let counted = c.count.ensures ∙ ap (count_by (λ b. b)) c.in_ok-past.ensures in
    all_below c.args.base (numbers_in c.args.places.now) (omega (arith, c.requires.base.0)) (sym counted ∙ is_zero c.count.result all)

pub returns-clause-past : goal.returns-clause-past
returns-clause-past c = λ some.
    let counted = c.count.ensures ∙ ap (count_by (λ b. b)) c.in_ok-past.ensures in
    one_past c.args.base (numbers_in c.args.places.now) (omega (arith, c.requires.base.0)) (omega (arith, counted, is_more c.count.result some))
