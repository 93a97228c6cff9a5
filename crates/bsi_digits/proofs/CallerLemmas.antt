-- The lemmas for callers. Those on a list of bases take it as `IsBaseList bs`, which `Bases::len` and `Bases::size` ensure.

-- the weight of a component, from 1 at the first up to the size
pub use Rattle.bsi_digits.proofs.Parts.{base_pos, weight_more, weight_all, weight_pos, weight_rises, weight_le_size, size_pos, digit_below, length-digits_of, get_or-digits_of, low_more, low_all, high_more, high_digit, high_parts, high_all, two_lt, two_le, two_eq, low_lt, low_le, low_eq, high_eq, high_lt}
-- the digit of a component
-- the part of a value below a component, `v % weight bs i`, which grows from nothing to the value
-- the part from a component on, `v / weight bs i`, which falls from the value to nothing
-- comparisons, where the digit of the highest component decides, and then what stands below it
pub use Rattle.bsi_digits.proofs.Comparing.{two_cmp, slice_cmp-digits_of}
-- lists of digits
pub use Rattle.bsi_digits.proofs.DigitLists.{digits_of-cons, weighted_sum-cons, weighted_sum-digits_of, IsDigits-digits_of, same_digits}
-- bases of 2, under which digits are binary
pub use Rattle.bsi_digits.proofs.Twos.{IsBaseList-twos, weight-twos, digit_of-twos}
-- a list of bases that is not refused
pub use Rattle.bsi_digits.proofs.Refusals.{refusal-from_base_list}
