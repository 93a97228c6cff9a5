-- Whole numbers, which may be negative, in their order: comparisons, the sum, the extremes and the lower median.
use Rattle.std.specs.Prelude.{ℤ, pos, ◌+ℤ◌, Bool, false, List, [], ◌∷◌, Option, Some, None, ◌&&◌, int_lt, int_le}
use Rattle.bsi_digits.specs.Orders.{Order, selects_by, IsLeastBy, IsGreatestBy, IsLowerMedianBy, IsNoneOr}
use Rattle.bsi_digits.specs.declared.op.Op.{Op}

-- the whole numbers in their order
abbrev pub signed_order : Order ℤ
signed_order = record { same = λ x y. int_le x y && int_le y x; below = int_lt; at_most = int_le }

-- the entry is a number, and compares with the constant as the operator says
abbrev pub signed_selects : Op → ℤ → Option ℤ → Bool
signed_selects = selects_by signed_order

-- both entries are numbers, and the first compares with the second as the operator says
abbrev pub signed_relates : Op → Option ℤ → Option ℤ → Bool
signed_relates op entry None = false
signed_relates op entry (Some n) = signed_selects op n entry

-- the sum of the numbers
unfoldable pub signed_sum : List ℤ → ℤ
signed_sum [] = pos 0
signed_sum (x ∷ xs) = x +ℤ signed_sum xs

-- the answer is the least number, or none if there is no number
abbrev pub IsSignedLeastOf : List ℤ → Option ℤ → Type 0
IsSignedLeastOf = IsNoneOr (IsLeastBy signed_order)

-- the answer is the greatest number, or none if there is no number
abbrev pub IsSignedGreatestOf : List ℤ → Option ℤ → Type 0
IsSignedGreatestOf = IsNoneOr (IsGreatestBy signed_order)

-- the answer is the lower median, or none if there is no number
abbrev pub IsSignedMedianOf : List ℤ → Option ℤ → Type 0
IsSignedMedianOf = IsNoneOr (IsLowerMedianBy signed_order)
