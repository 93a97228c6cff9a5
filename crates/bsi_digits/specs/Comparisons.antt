-- Comparisons of natural numbers (`compares`), and which entries of a column one selects (`selects`): never a null.
use Rattle.std.specs.Prelude.{ℕ, Bool, Option, unwrap_or, nat_eq, nat_lt, nat_le}
use Rattle.bsi_digits.specs.Orders.{Order, compares_by, selects_by}
use Rattle.bsi_digits.specs.declared.op.Op.{Op}

-- the stored number of an entry, which is 0 for a null
abbrev pub number_or_zero : Option ℕ → ℕ
number_or_zero entry = unwrap_or entry 0

-- the numbers from 0 on in their order
abbrev pub number_order : Order ℕ
number_order = record { same = nat_eq; below = nat_lt; at_most = nat_le }

-- the comparison of numbers
abbrev pub compares : Op → ℕ → ℕ → Bool
compares = compares_by number_order

-- the entry is a number, and compares with the constant as the operator says
abbrev pub selects : Op → ℕ → Option ℕ → Bool
selects = selects_by number_order
