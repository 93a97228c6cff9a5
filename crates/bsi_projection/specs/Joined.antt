-- The answer over rows, from the answers over two parts of them (`joined`): counts and sums are added, and of two least
-- or two greatest numbers the lesser or the greater one stays.
use Rattle.std.specs.Prelude.{ℤ, ◌+◌, ◌+ℤ◌, int_le, if◌then◌else◌, Option, Some, None}
use Rattle.bsi_rows.specs.declared.query.Answer.{Answer}
use Rattle.bsi_rows.specs.declared.query.Answer.TheVariants.{Count as count_answer, Sum as sum_answer, Value as value_answer}
use Rattle.bsi_rows.specs.declared.query.Total.{Total}
use Rattle.bsi_rows.specs.declared.query.Total.TheVariants.{Count, Sum, Least, Greatest, Median, Rank, Rows}

-- The total follows from those of two parts: a count, a sum, a least or a greatest number.
abbrev pub IsJoined : Total → Type 0
IsJoined Count = Unit {0}
IsJoined (Sum c) = Unit {0}
IsJoined (Least c) = Unit {0}
IsJoined (Greatest c) = Unit {0}
IsJoined (Median c) = ⊥
IsJoined (Rank c rank) = ⊥
IsJoined Rows = ⊥

-- The lesser of two numbers. Where one is none, it is the other.
abbrev pub lesser : Option ℤ → Option ℤ → Option ℤ
lesser None other = other
lesser (Some x) None = Some x
lesser (Some x) (Some y) = if int_le x y then Some x else Some y

-- The greater of two numbers. Where one is none, it is the other.
abbrev pub greater : Option ℤ → Option ℤ → Option ℤ
greater None other = other
greater (Some x) None = Some x
greater (Some x) (Some y) = if int_le y x then Some x else Some y

-- The greatest number of two parts, or else the least.
abbrev pub joined_values : Total → Option ℤ → Option ℤ → Option ℤ
joined_values (Greatest c) x y = greater x y
joined_values total x y = lesser x y

-- The answer over two parts, from the answer over each.
abbrev pub joined : Total → Answer → Answer → Answer
joined total (count_answer n) (count_answer m) = count_answer (n + m)
joined total (sum_answer x) (sum_answer y) = sum_answer (x +ℤ y)
joined total (value_answer x) (value_answer y) = value_answer (joined_values total x y)
joined total answer other = answer
