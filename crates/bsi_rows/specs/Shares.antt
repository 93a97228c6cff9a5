-- A share, which is a fraction from 0 to 1 (`IsShare`), and the rank that it gives among some numbers.
use Rattle.std.specs.Prelude.{ℕ, ◌-◌, ◌*◌, ◌/◌, ◌<◌, ◌≤◌, ◌&&◌, nat_lt, nat_le, if◌then◌else◌, Option, Some, None}

-- a fraction: numerator over denominator
pub record Share : Type 0 where
  pub numerator : ℕ
  pub denominator : ℕ

-- a share is a fraction from 0 to 1
abbrev pub IsShare : ℕ → ℕ → Type 0
IsShare numerator denominator = (0 < denominator) × (numerator ≤ denominator)

-- the share of numerator over denominator, or none if that is no fraction from 0 to 1
abbrev pub share_of : ℕ → ℕ → Option Share
share_of numerator denominator =
    if nat_lt 0 denominator && nat_le numerator denominator then Some (record { numerator = numerator; denominator = denominator }) else None

-- the rank, from 0, of a share of `count` numbers: the last rank times the share, rounded down
abbrev pub share_rank : Share → ℕ → ℕ
share_rank share count = (count - 1) * share.numerator / share.denominator
