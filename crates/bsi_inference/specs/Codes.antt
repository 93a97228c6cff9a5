-- Fields with a zero before another digit, as 007 and -01.5: they may be codes instead of numbers.
use Rattle.std.specs.Prelude.{Bool, false, ◌&&◌, ◌==◌, [], ◌∷◌}
use Rattle.std.specs.Char.{is_ascii_digit}
use Rattle.bsi_rows.specs.Fields.{Field}
use Rattle.bsi_kinds.specs.Decimals.{without_minus}

-- A field begins with a zero and another digit.
abbrev pub begins_padded : Field → Bool
begins_padded [] = false
begins_padded (first ∷ []) = false
begins_padded (first ∷ next ∷ rest) = (first == 48) && is_ascii_digit next

-- The same, with or without a minus sign: 007 and -01.5.
abbrev pub is_code : Field → Bool
is_code field = begins_padded (without_minus field)
