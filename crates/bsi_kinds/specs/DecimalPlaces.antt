-- How many digits the text of a decimal has behind the point, once its exponent has moved the point (`places_written`).
use Rattle.std.specs.Prelude.{ℕ, ◌+◌, ◌-◌, suc, length, unwrap_or, ℤ, pos, negsuc}
use Rattle.std.specs.List.{after_first, before_first}
use Rattle.bsi_rows.specs.Fields.{Field}
use Rattle.bsi_kinds.specs.Decimals.{exponent_of, fraction, is_exponent_sign}

-- The places after an exponent has moved the point.
abbrev pub moved_places : ℕ → ℤ → ℕ
moved_places places (pos e) = places - e
moved_places places (negsuc e) = places + suc e

-- The places of a text: the digits after its point, moved by its exponent, if any.
abbrev pub places_written : ℕ → Field → ℕ
places_written point text =
    moved_places (length (fraction point (before_first is_exponent_sign text)))
    (unwrap_or (exponent_of (after_first is_exponent_sign text)) (pos 0))
