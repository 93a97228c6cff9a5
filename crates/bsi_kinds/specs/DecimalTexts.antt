-- The text of a decimal (`decimal_text`): a sign, whole units, and the digits after the point.
use Rattle.std.specs.Prelude.{ℕ, zero, suc, ◌+◌, ◌/◌, ◌%◌, ◌^◌, ◌==◌, if◌then◌else◌, [], ◌∷◌, ◌++◌, ℤ, unsigned_abs, int_lt, pos, decimal}
use Rattle.bsi_rows.specs.Fields.{Field}

-- The last k digits of a number as ASCII, with leading zeros.
abbrev pub last_digits : ℕ → ℕ → Field
last_digits zero n = []
last_digits (suc k) n = (48 + n / 10 ^ k % 10) ∷ last_digits k n

-- A point and digits after it, or nothing at 0 places.
abbrev pub places_text : ℕ → ℕ → Field
places_text places n = if places == 0 then [] else 46 ∷ last_digits places n

-- Units without a sign: 1250 at 2 places is 12.50.
abbrev pub units_text : ℕ → ℕ → Field
units_text places n = decimal (n / 10 ^ places) ++ places_text places (n % 10 ^ places)

abbrev pub sign_text : ℤ → Field
sign_text n = if int_lt n (pos 0) then 45 ∷ [] else []

-- The text of the decimal that a number stands for.
abbrev pub decimal_text : ℕ → ℤ → Field
decimal_text places n = sign_text n ++ units_text places (unsigned_abs n)
