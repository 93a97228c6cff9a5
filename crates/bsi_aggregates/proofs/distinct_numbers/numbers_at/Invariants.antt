use Rattle.std.proofs.Common.{◌≡◌, ◌*◌, take}
use Rattle.bsi_digits.specs.Orders.{values_at}
use Rattle.bsi_shift.specs.Shifted.{shifted_entries}
use Rattle.bsi_aggregates.proofs.distinct_numbers.numbers_at.Given as goal

-- the numbers of the rows of the words so far
abbrev pub invariant-words : goal.invariant-words
invariant-words l = l.numbers.items ≡ values_at (take (64 * l.at) l.selection.bits) (take (64 * l.at) (shifted_entries l.column))
