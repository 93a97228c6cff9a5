-- A digit that bounds those of the rows that are set, and that one of them has or passes, is their least or greatest.
use Rattle.std.proofs.Common.{◌≡◌, ℕ, ◌+◌, ◌-◌, ◌<◌, ◌≤◌, Bool, true, Option, Some, None, arith, subst}
use Rattle.bsi_kernels.specs.Extremes.{best_is_no_worse, improves, IsImprovement}
use Rattle.bsi_digits.specs.declared.extreme.Extreme.TheVariants.{Greatest}
use Rattle.bsi_components.specs.ExtremeDigits.{AnswersGreatest, IsGreatestDigit, IsLeastDigit}

pub greatest_here : (bound : ℕ) (rows : ℕ → Bool) (digit : ℕ → ℕ) (n d : ℕ) → bound ≤ d → ((p : ℕ) × (p < n) × (rows p ≡ true) × (d ≤ digit p))
    → ((p : ℕ) → p < n → rows p ≡ true → digit p ≤ d) → IsGreatestDigit bound rows digit n d
greatest_here bound rows digit n d within (p, below, set, reaches) first =
    let at_most = first p below set in
    record {
      within = within;
      member = (p, below, set, omega (arith, at_most, reaches));
      first = first;
    }

pub least_here : (bound : ℕ) (rows : ℕ → Bool) (digit : ℕ → ℕ) (n d : ℕ) → d ≤ bound → ((p : ℕ) × (p < n) × (rows p ≡ true) × (digit p ≤ d))
    → ((p : ℕ) → p < n → rows p ≡ true → d ≤ digit p) → IsLeastDigit bound rows digit n d
least_here bound rows digit n d within (p, below, set, reaches) first =
    let at_least = first p below set in
    record {
      within = within;
      member = (p, below, set, omega (arith, at_least, reaches));
      first = first;
    }

-- where none has the digit before, and the next one is asked for
pub least_next : (bound : ℕ) (rows : ℕ → Bool) (digit : ℕ → ℕ) (n d : ℕ) → 0 < d → d ≤ bound → ((p : ℕ) × (p < n) × (rows p ≡ true) × (digit p ≤ d))
    → ((p : ℕ) → p < n → rows p ≡ true → d - 1 < digit p) → IsLeastDigit bound rows digit n (d - 1 + 1)
least_next bound rows digit n d some within member first =
    let next : d ≡ d - 1 + 1 = omega (arith, some) in
    subst (λ (v : ℕ). IsLeastDigit bound rows digit n v) next
    (least_here bound rows digit n d within member (λ p below set. let above = first p below set in omega (arith, some, above)))

-- the greatest of those that go before all digits below the bound
pub greatest_from : (bound : ℕ) (rows : ℕ → Bool) (digit : ℕ → ℕ) (n : ℕ) (best answer : Option ℕ) → ((x : ℕ) → best_is_no_worse Greatest best x → x < bound) → ((x : ℕ) → improves Greatest x best → bound ≤ x)
    → IsImprovement Greatest rows digit n best answer → AnswersGreatest bound rows digit n answer
greatest_from bound rows digit n best None led reached none = λ p below set. led (digit p) (none p below set)
greatest_from bound rows digit n best (Some d) led reached is = record {
  within = reached d is.1;
  member = is.0.member;
  first = is.0.first;
}
