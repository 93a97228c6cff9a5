use Rattle.std.proofs.Common.{◌≡◌, ◌+◌, Some, rules, w64, of_z, to_z, length, map, ap, sym, subst, ◌∙◌, arith}
use Rattle.std.specs.Prelude.{◌&&◌}
use Rattle.std.specs.Ordering.{int_eq}
use Rattle.std.specs.Set.{distinct_count}
use Rattle.std.specs.Simd.Lanes.{zip2}
use Rattle.std.proofs.lemmas.Int.{to_z-of_z}
use Rattle.std.proofs.lemmas.List.{length-map}
use Rattle.std.proofs.lemmas.Simd.{length-zip2}
use Rattle.bsi_bits.specs.BitList.{without}
use Rattle.bsi_digits.specs.Orders.{values_at}
use Rattle.bsi_digits.specs.WholeNumbers.{IsSignedLeastOf}
use Rattle.bsi_shift.specs.Shifted.{shifted_entries}
use Rattle.bsi_aggregates.specs.Entries.{is_entry}
use Rattle.bsi_aggregates.proofs.DistinctNumbers.{one_less}
use Rattle.bsi_aggregates.proofs.distinct_numbers.count_distinct.Goals as goal

-- one number more is split off
pub numbers-preserved : goal.numbers-preserved
numbers-preserved c =
    let entries = shifted_entries c.args.column.now in
    let rest = c.numbers.rest.bits in
    let n = c.in-Some.number in
    let least = subst (IsSignedLeastOf (values_at rest entries)) c.in-Some.is c.in_ok-number.ensures.least in
    let trip : to_z w64 (of_z w64 n) ≡ n = to_z-of_z w64 n (search rules) in
    let split_off = c.in_ok-split_off_rows.ensures.split_off ∙ ap (λ m. zip2 ◌&&◌ (map (is_entry (Some m)) entries) rest) trip in
    let left = c.in_ok-split_off_rows.ensures.without_them ∙ ap (zip2 without rest) split_off in
    let long = ap length split_off ∙ length-zip2 ◌&&◌ (map (is_entry (Some n)) entries) rest (length-map entries _ ∙ c.numbers.invariant.same) ∙ length-map entries _ in
    record {
      same = c.numbers.invariant.same ∙ sym (ap length c.in_ok-split_off_rows.ensures.without_them ∙ length-zip2 without rest c.in_ok-split_off_rows.field-0.bits (sym (long ∙ c.numbers.invariant.same)));
      count =
          let less = ap (λ bits. 1 + distinct_count int_eq (values_at bits entries)) left ∙ one_less n entries rest least.member in
          omega (arith, less, c.numbers.invariant.count);
    }
