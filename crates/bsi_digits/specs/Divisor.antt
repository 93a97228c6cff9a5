-- The reciprocal that is stored with a divisor, so that a quotient is a multiplication and a shift (`IsDivisor`).
use Rattle.std.specs.Prelude.{◌≡◌, ℕ, ◌+◌, ◌-◌, ◌/◌, ◌^◌, ◌≤◌}
use Rattle.std.specs.Int.{w64, leading_zeros}

-- the greatest divisor; each dividend is below the greatest divisor, which makes the quotient exact
abbrev pub max_divisor : ℕ
max_divisor = 2 ^ 63

-- the number of binary digits of the number before the divisor: two to this power is the least power of two from the
-- divisor on
abbrev pub shift_of : ℕ → ℕ
shift_of d = 64 - leading_zeros w64 (d - 1)

-- 2 ^ (63 + shift) over the divisor, rounded up
abbrev pub reciprocal_of : ℕ → ℕ
reciprocal_of d = (2 ^ (63 + shift_of d) + d - 1) / d

-- a divisor with its reciprocal and shift
pub record IsDivisor (divisor reciprocal shift : ℕ) : Type 0 where
  -- the divisor is not 0
  pub some : 1 ≤ divisor
  -- the divisor is at most 2^63
  pub small : divisor ≤ max_divisor
  -- two to the power of the shift is the least power of two from the divisor on
  pub shift_is : shift ≡ shift_of divisor
  -- the reciprocal is 2^(63 + shift) over the divisor, rounded up
  pub reciprocal_is : reciprocal ≡ reciprocal_of divisor
