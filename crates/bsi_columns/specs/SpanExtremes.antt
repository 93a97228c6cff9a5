-- The extreme digit of the rows of a span within a bound (`AnswersExtreme`), and the span narrowed to its rows.
use Rattle.std.specs.Prelude.{◌≡◌, ℕ, ◌<◌, ◌&&◌, Bool, true, nat_eq, Option, Some, None}
use Rattle.bsi_bits.specs.SetRows.{HasRow}
use Rattle.bsi_slices.specs.Extremes.{is_no_worse}
use Rattle.bsi_digits.specs.declared.extreme.Extreme.{Extreme}
use Rattle.bsi_digits.specs.declared.extreme.Extreme.TheVariants.{Least, Greatest}
use Rattle.bsi_components.specs.ExtremeDigits.{AnswersLeast, AnswersGreatest}

-- the digit is worse than the bound
abbrev pub IsPastBound : Extreme → ℕ → ℕ → Type 0
IsPastBound Least bound digit = bound < digit
IsPastBound Greatest bound digit = digit < bound

-- the answer is the extreme digit, or none if all digits are past the bound
abbrev pub AnswersExtreme : Extreme → ℕ → (ℕ → Bool) → (ℕ → ℕ) → ℕ → Option ℕ → Type 0
AnswersExtreme Least = AnswersLeast
AnswersExtreme Greatest = AnswersGreatest

-- the set rows are narrowed to those of digit d, which is the extreme
pub record IsNarrowedTo (extreme : Extreme) (old new : ℕ → Bool) (digit : ℕ → ℕ) (n d : ℕ) : Type 0 where
  pub rows_are : (p : ℕ) → p < n → new p ≡ (old p && nat_eq (digit p) d)
  pub some : HasRow new n
  pub first : (p : ℕ) → p < n → old p ≡ true → is_no_worse extreme d (digit p)

-- the set rows are narrowed to those of the answered digit; none is answered if all digits are past the bound
abbrev pub AndsExtreme : Extreme → ℕ → (ℕ → Bool) → (ℕ → Bool) → (ℕ → ℕ) → ℕ → Option ℕ → Type 0
AndsExtreme extreme bound old new digit n None = (p : ℕ) → p < n → old p ≡ true → IsPastBound extreme bound (digit p)
AndsExtreme extreme bound old new digit n (Some d) = IsNarrowedTo extreme old new digit n d
