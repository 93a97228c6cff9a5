-- Whole numbers that are stored less an offset, and which entries a column from an offset on accepts (`IsInRange`).
use Rattle.std.specs.Prelude.{ℕ, ℤ, pos, ◌+ℤ◌, ◌≤ℤ◌, ◌<ℤ◌, Option, IfSome}

-- the number that is stored as n
abbrev pub number_of : ℤ → ℕ → ℤ
number_of offset n = offset +ℤ pos n

-- the entry is a null, or a number from the offset on and below the sum of offset and size. `is_between` of a schema is
-- the test.
abbrev pub IsInRange : ℤ → ℕ → Option ℤ → Type 0
IsInRange offset size entry = IfSome entry (λ x. (offset ≤ℤ x) × (x <ℤ (offset +ℤ pos size)))
