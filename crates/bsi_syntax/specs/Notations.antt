-- How answers write the numbers of columns (`NumberTexts`): in an index of whole numbers, as these.
use Rattle.std.specs.Prelude.{◌≡◌, ℕ, ℤ, ◌++◌}
use Rattle.std.specs.Fmt.{signed_decimal}
use Rattle.bsi_syntax.specs.Bytes.{Bytes}

-- The bytes are a text of a number of a column.
abbrev pub NumberTexts : Type 1
NumberTexts = ℕ → ℤ → Bytes → Type 0

-- Whole numbers are written as decimals, whatever their column.
abbrev pub whole_texts : NumberTexts
whole_texts c n text = text ≡ signed_decimal n

-- A text with the property was appended.
pub record AppendsText (Is : Bytes → Type 0) (old new : Bytes) : Type 0 where
  pub text : Bytes
  pub is : Is text
  pub written : new ≡ old ++ text
