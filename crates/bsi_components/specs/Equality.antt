-- Equality encoding: the first digit with a bitmap (`first_stored`), and which digits are in an interval (`is_among`).
use Rattle.std.specs.Prelude.{ℕ, ◌==◌, ◌&&◌, Bool, nat_le, nat_lt, if◌then◌else◌}

-- the first digit that has a bitmap; base 2 stores the bitmap of digit 1 alone
abbrev pub first_stored : ℕ → ℕ
first_stored base = if base == 2 then 1 else 0

-- the digit is from `from` on and below `to`
abbrev pub is_among : ℕ → ℕ → ℕ → Bool
is_among from to digit = nat_le from digit && nat_lt digit to
