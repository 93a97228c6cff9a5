use Rattle.std.proofs.Common.{◌≡◌, ◌+◌, ◌*◌, ◌/◌, ◌%◌, ◌<◌, ◌^◌, ◌&&◌, None, is_some, length, take, get_or, subst, ap, sym, ◌∙◌, arith}
use Rattle.std.specs.Prelude.{◌==◌}
use Rattle.std.specs.Int.{bit_at}
use Rattle.std.proofs.lemmas.List.{get_or-take}
use Rattle.bsi_bits.specs.Packed.{bit_of}
use Rattle.bsi_slices.specs.Decisions.{as_expected}
use Rattle.bsi_columns.specs.AnyColumns.{any_entries}
use Rattle.bsi_columns.specs.Extremes.{number_at}
use Rattle.bsi_columns.proofs.DigitRelations.{entries_narrowed, row_within}
use Rattle.bsi_columns.proofs.any.AnyColumn.and_compare_block.Goals as goal

pub returns-clause-rows : goal.returns-clause-rows
returns-clause-rows c = λ p below.
    let r = 64 * c.args.at + p in
    let comparison = c.args.comparison in
    let entries = any_entries c.args.self.now in
    let others = any_entries c.args.other.now in
    let n = length c.and_numbers-2.new.span in
    let count = c.args.count in
    let state = c.relate_numbers.new.state in
    let expected = c.of-relation.result.1 in
    let same : n ≡ length c.args.words.now = c.and_numbers-2.ensures.long ∙ c.and_numbers.ensures.long in
    let prefix : bit_of (take n state) p ≡ bit_of state p = ap (λ w. bit_at w (p % 64) == 1) (get_or-take n state (p / 64) 0 (omega (arith, below, same))) in
    let answer = as_expected expected (bit_of (take n state) p) in
    let x = number_at entries r + comparison.left_addend in
    let y = number_at others r + comparison.right_addend in
    let long : length c.sums_into.new.places ≡ count = c.sums_into.ensures.long ∙ c.split_at_mut-own.ensures.front_len in
    c.and_expected.ensures.bits p (omega (arith, below, same))
    ∙ ap (λ b. b && answer) (c.and_numbers-2.ensures.bits p (omega (arith, below, c.and_numbers.ensures.long)) ∙ ap (λ b. b && is_some (get_or others r None)) (c.and_numbers.ensures.bits p below))
    ∙ entries_narrowed comparison (bit_of c.args.words.now p) answer (get_or entries r None) (get_or others r None) (λ there.
    let row : r < length entries = row_within entries r there in
    let other_row : r < length others = omega (arith, row, c.requires.same) in
    ap (as_expected expected) (prefix ∙ c.relate_numbers.ensures p x y (omega (arith, below, c.requires.block))
    (subst (λ m. x < 2 ^ m) (sym long) (c.requires.enough r))
    (subst (λ m. y < 2 ^ m) (sym long) (c.requires.others_enough r))
    (c.sums_into.ensures.sums p below row)
    (c.sums_into-2.ensures.sums p below other_row))
    ∙ sym (c.of-relation.ensures x y))
