-- The least or greatest digit of some rows of a span, or none if it is past a bound.
use Rattle.std.specs.Prelude.{◌≡◌, ℕ, ◌<◌, ◌≤◌, Bool, true, Option, Some, None}
use Rattle.bsi_bits.specs.SetRows.{HasValue}

-- d is the least digit of the set rows, and at most the bound
pub record IsLeastDigit (bound : ℕ) (rows : ℕ → Bool) (digit : ℕ → ℕ) (n d : ℕ) : Type 0 where
  pub within : d ≤ bound
  pub member : HasValue rows digit n d
  pub first : (p : ℕ) → p < n → rows p ≡ true → d ≤ digit p

-- d is the greatest digit of the set rows, and at least the bound
pub record IsGreatestDigit (bound : ℕ) (rows : ℕ → Bool) (digit : ℕ → ℕ) (n d : ℕ) : Type 0 where
  pub within : bound ≤ d
  pub member : HasValue rows digit n d
  pub first : (p : ℕ) → p < n → rows p ≡ true → digit p ≤ d

-- the answer is the least digit, or none if all digits are above the bound
abbrev pub AnswersLeast : ℕ → (ℕ → Bool) → (ℕ → ℕ) → ℕ → Option ℕ → Type 0
AnswersLeast bound rows digit n None = (p : ℕ) → p < n → rows p ≡ true → bound < digit p
AnswersLeast bound rows digit n (Some d) = IsLeastDigit bound rows digit n d

-- the answer is the greatest digit, or none if all digits are below the bound
abbrev pub AnswersGreatest : ℕ → (ℕ → Bool) → (ℕ → ℕ) → ℕ → Option ℕ → Type 0
AnswersGreatest bound rows digit n None = (p : ℕ) → p < n → rows p ≡ true → digit p < bound
AnswersGreatest bound rows digit n (Some d) = IsGreatestDigit bound rows digit n d
