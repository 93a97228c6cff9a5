use Rattle.std.proofs.Common.{◌≡◌, ◌+◌, length}
use Rattle.std.specs.Ordering.{int_eq}
use Rattle.std.specs.Set.{distinct_count}
use Rattle.bsi_digits.specs.Orders.{values_at}
use Rattle.bsi_shift.specs.Shifted.{shifted_entries}
use Rattle.bsi_aggregates.proofs.distinct_numbers.count_distinct.Given as goal

-- so many numbers are split off, and the others are left
abbrev pub invariant-numbers : goal.invariant-numbers
invariant-numbers l = record {
  same : length (shifted_entries l.column) ≡ length l.rest.bits;
  count : l.split_off + distinct_count int_eq (values_at l.rest.bits (shifted_entries l.column)) ≡ distinct_count int_eq (values_at l.fn.selection.bits (shifted_entries l.column));
}
