use Rattle.std.proofs.Common.{◌≡◌, ℕ, ℤ, length, ap, subst, sym, ◌∙◌, arith}
use mir.Syntax.{w64}
use mir.Val.{of_z, to_z}
use Rattle.std.proofs.lemmas.Int.{ints, to_z-of_z}
use Rattle.std.proofs.lemmas.Nat.Bits.{shr_and_one}
use Rattle.bsi_digits.specs.Offsets.{number_of}
use Rattle.bsi_digits.specs.Digits.{max_size}
use Rattle.bsi_shift.proofs.Moving.{IsMoved, moved_entries, moved_more, number_in_range}
use Rattle.bsi_shift.proofs.shifted.move_block.Goals.{then-not_null-r-eq1, else-not_null-r-eq1}
use Rattle.bsi_shift.proofs.shifted.move_block.Goals as goal

-- the number is one of the block
pub moved-requires : goal.moved-requires
moved-requires c =
    let there = sym (shr_and_one c.args.not_null c.entries.r) ∙ c.if-not_null-r-eq1.true in
    let range = number_in_range c.args.from c.args.to max_size c.args.numbers.now c.args.not_null c.requires.range c.entries.r c.entries-test.true there in
    (omega (arith, ints, range.0, c.ranges.from, c.ranges.to), omega (arith, ints, range.1, c.ranges.from, c.ranges.to))

pub entries-preserved : goal.entries-preserved
entries-preserved c =
    let first = to_z w64 (of_z w64 c.args.from) in
    let offset = to_z w64 (of_z w64 c.args.to) in
    let r = c.entries.r in
    let number = c.if-not_null-r-eq1.stored in
    let bit = shr_and_one c.args.not_null r in
    elim c.if-not_null-r-eq1.branch [
      | then-not_null-r-eq1 w ↦ moved_more first c.args.numbers.now c.args.not_null offset c.entries.stored r number c.entries-test.true
          (λ on. ap (number_of offset) w.stored-is ∙ w.moved.ensures) (λ off. absurd (omega (arith, off, bit, w.if-not_null-r-eq1.true))) c.entries.invariant
      | else-not_null-r-eq1 w ↦ moved_more first c.args.numbers.now c.args.not_null offset c.entries.stored r number c.entries-test.true
          (λ on. absurd (w.if-not_null-r-eq1.false (bit ∙ on))) (λ off. w.stored-is) c.entries.invariant
    ]

pub returns-clause-entries : goal.returns-clause-entries
returns-clause-entries c =
    let numbers = c.args.numbers.now in
    let ends : c.entries.r ≡ length numbers = omega (arith, c.entries-test.false, c.entries.auto.r-end) in
    let from_is = to_z-of_z w64 c.args.from c.ranges.from in
    let to_is = to_z-of_z w64 c.args.to c.ranges.to in
    moved_entries c.args.from numbers c.args.not_null c.args.to c.entries.stored
    (subst (λ (n : ℕ). IsMoved c.args.from numbers c.args.not_null c.args.to c.entries.stored n) ends
    (subst (λ (o : ℤ). IsMoved c.args.from numbers c.args.not_null o c.entries.stored c.entries.r) to_is
    (subst (λ (f : ℤ). IsMoved f numbers c.args.not_null (to_z w64 (of_z w64 c.args.to)) c.entries.stored c.entries.r) from_is c.entries.invariant)))
