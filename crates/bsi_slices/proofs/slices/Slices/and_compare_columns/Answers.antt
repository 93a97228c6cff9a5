use Rattle.std.proofs.Common.{◌+◌, ◌*◌, ◌<◌, ◌≤◌, ℕ, List, ◌&&◌, false, None, length, get_or, ap, ap₂, sym, subst, ◌∙◌, arith}
use Rattle.bsi_bits.specs.BitList.{word_count, BitList}
use Rattle.bsi_bits.specs.BitLists.{bits_at}
use Rattle.bsi_bits.specs.Packed.{bit_of}
use Rattle.bsi_slices.specs.Related.{compares_numbers, compares_entries}
use Rattle.bsi_slices.specs.Slices.{number}
use Rattle.bsi_slices.proofs.SliceEntries.{length-entries_in, sliced_at}
use Rattle.bsi_slices.proofs.Related.{both_there}
use Rattle.bsi_slices.proofs.slices.Slices.and_compare_columns.Goals as goal

pub and_assign-requires : goal.and_assign-requires
and_assign-requires c =
    let rows = ap (λ v. length v.entries) (sym c.self.view_is) ∙ length-entries_in c.self.inside.not_null.bits c.self.inside.slices.vectors in
    omega (arith, c.requires.within, rows)

pub and_assign-requires-2 : goal.and_assign-requires-2
and_assign-requires-2 c =
    let rows = ap (λ v. length v.entries) (sym c.other.view_is) ∙ length-entries_in c.other.inside.not_null.bits c.other.inside.slices.vectors in
    omega (arith, c.requires.within, c.requires.same, rows, c.and_assign.auto.span)

pub and_compare_columns-requires-clause-small : goal.and_compare_columns-requires-clause-small
and_compare_columns-requires-clause-small c =
    let rows = ap (λ v. length v.entries) (sym c.self.view_is) ∙ length-entries_in c.self.inside.not_null.bits c.self.inside.slices.vectors in
    omega (arith, c.requires.within, rows, c.self.invariant.small, c.and_assign.auto.span, c.and_assign-2.auto.span)

pub and_compare_columns-requires-clause-long : goal.and_compare_columns-requires-clause-long
and_compare_columns-requires-clause-long c =
    let rows = ap (λ v. length v.entries) (sym c.self.view_is) ∙ length-entries_in c.self.inside.not_null.bits c.self.inside.slices.vectors in
    subst (λ (vectors : List BitList). (i : ℕ) → i < length vectors → c.args.at + length c.and_assign-2.new.span ≤ word_count (length (bits_at vectors i)))
    (sym c.as_slice-slices.ensures.vectors)
    (λ i inside. omega (arith, c.requires.within, rows, c.self.invariant.even i inside, c.and_assign.auto.span, c.and_assign-2.auto.span))

pub and_compare_columns-requires-clause-others_long : goal.and_compare_columns-requires-clause-others_long
and_compare_columns-requires-clause-others_long c =
    let rows = ap (λ v. length v.entries) (sym c.other.view_is) ∙ length-entries_in c.other.inside.not_null.bits c.other.inside.slices.vectors in
    subst (λ (vectors : List BitList). (i : ℕ) → i < length vectors → c.args.at + length c.and_assign-2.new.span ≤ word_count (length (bits_at vectors i)))
    (sym c.as_slice-others.ensures.vectors)
    (λ i inside. omega (arith, c.requires.within, c.requires.same, rows, c.other.invariant.even i inside, c.and_assign.auto.span, c.and_assign-2.auto.span))

pub returns : goal.returns
returns c = λ p below.
    let r = 64 * c.args.at + p in
    let was = bit_of c.args.span.now p in
    let comparison = c.args.comparison in
    let there = c.self.inside.not_null.bits in
    let other_there = c.other.inside.not_null.bits in
    let slices = c.self.inside.slices.vectors in
    let others = c.other.inside.slices.vectors in
    c.and_compare_columns.ensures.inside p (omega arith) (omega (arith, below, c.and_assign.auto.span, c.and_assign-2.auto.span))
    ∙ ap₂ ◌&&◌
    (c.and_assign-2.ensures.bits p (omega (arith, below, c.and_assign.auto.span)) ∙ ap (λ b. b && get_or other_there r false) (c.and_assign.ensures.bits p below))
    (ap₂ (λ one two. compares_numbers comparison (number one r) (number two r)) c.as_slice-slices.ensures.vectors c.as_slice-others.ensures.vectors)
    ∙ both_there comparison was (get_or there r false) (get_or other_there r false) (number slices r) (number others r)
    ∙ ap₂ (λ first second. was && compares_entries comparison first second) (sym (sliced_at there slices r)) (sym (sliced_at other_there others r))
    ∙ ap₂ (λ one two. was && compares_entries comparison (get_or one.entries r None) (get_or two.entries r None)) c.self.view_is c.other.view_is
