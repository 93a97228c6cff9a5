-- The least and the greatest signed number of 64 bits, and which entries are within them (`IsI64`).
use Rattle.std.specs.Prelude.{ℕ, ◌^◌, ℤ, pos, neg_ℤ, ◌≤ℤ◌, ◌<ℤ◌, Option, IfSome}

-- the least number of 64 bits
abbrev pub least_i64 : ℤ
least_i64 = neg_ℤ (pos (2 ^ 63))

-- one more than the greatest number of 64 bits
abbrev pub end_of_i64 : ℕ
end_of_i64 = 2 ^ 63

-- an entry is a null or a number of 64 bits
abbrev pub IsI64 : Option ℤ → Type 0
IsI64 entry = IfSome entry (λ x. (least_i64 ≤ℤ x) × (x <ℤ pos end_of_i64))
