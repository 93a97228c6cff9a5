use Rattle.std.proofs.Common.{◌≡◌, ℕ, ◌+◌, ◌*◌, ◌%◌, ◌^◌, ◌<◌, ◌&&◌, false, length, get_or, replicate, sym, ◌∙◌, ap, arith}
use Rattle.std.proofs.Math.Bool.{and-false, and-true}
use Rattle.std.proofs.lemmas.Nat.{one_shl}
use Rattle.bsi_bits.specs.Packed.{bit_of}
use Rattle.bsi_bits.proofs.Reading.{none_set}
use Rattle.bsi_slices.specs.Slices.{number}
use Rattle.bsi_slices.specs.Decisions.{decides, passes}
use Rattle.bsi_slices.proofs.WordSpans.{replicate_bit}
use Rattle.bsi_slices.proofs.SliceSelections.{and_assoc, tested_decided}
use Rattle.bsi_slices.proofs.slices.compare.and_compare.Goals as goal

-- no number below the size
pub returns-in-Nothing : goal.returns-in-Nothing
returns-in-Nothing c = λ p below.
    let few : length c.args.slices.now < 64 = omega (arith, c.requires.sliced.few) in
    let size_is : 1 * 2 ^ length c.args.slices.now % 2 ^ 64 ≡ 2 ^ length c.args.slices.now = one_shl (length c.args.slices.now) 64 few in
    let r : ℕ = 64 * c.args.at + p in
    let was = bit_of c.args.span.now p in
    let not_null = c.args.not_null.now.bits in
    let filled : c.fill.new.self ≡ replicate (length c.args.span.now) 0 = c.fill.ensures.after (λ y same. same) in
    ap (λ ws. bit_of ws p) filled ∙ replicate_bit (length c.args.span.now) 0 false none_set p below
    ∙ sym (and-false was) ∙ ap (λ b. was && b) (sym (ap (λ s. get_or not_null r false && decides s (number c.args.slices.now r)) c.in-Nothing.is ∙ and-false (get_or not_null r false)))
    ∙ tested_decided not_null c.args.slices.now c.args.op c.args.constant (1 * 2 ^ length c.args.slices.now % 2 ^ 64) size_is c.decide.result c.decide.ensures.decided was r

-- each number below the size
pub returns-in-Everything : goal.returns-in-Everything
returns-in-Everything c = λ p below.
    let few : length c.args.slices.now < 64 = omega (arith, c.requires.sliced.few) in
    let size_is : 1 * 2 ^ length c.args.slices.now % 2 ^ 64 ≡ 2 ^ length c.args.slices.now = one_shl (length c.args.slices.now) 64 few in
    let r : ℕ = 64 * c.args.at + p in
    let was = bit_of c.args.span.now p in
    let not_null = c.args.not_null.now.bits in
    c.and_assign.ensures.bits p below
    ∙ ap (λ b. was && b) (sym (ap (λ s. get_or not_null r false && decides s (number c.args.slices.now r)) c.in-Everything.is ∙ and-true (get_or not_null r false)))
    ∙ tested_decided not_null c.args.slices.now c.args.op c.args.constant (1 * 2 ^ length c.args.slices.now % 2 ^ 64) size_is c.decide.result c.decide.ensures.decided was r

-- the numbers that pass the test, of which those of the rows that are there are kept
pub returns-in-Tested : goal.returns-in-Tested
returns-in-Tested c = λ p below.
    let few : length c.args.slices.now < 64 = omega (arith, c.requires.sliced.few) in
    let size_is : 1 * 2 ^ length c.args.slices.now % 2 ^ 64 ≡ 2 ^ length c.args.slices.now = one_shl (length c.args.slices.now) 64 few in
    let r : ℕ = 64 * c.args.at + p in
    let was = bit_of c.args.span.now p in
    let not_null = c.args.not_null.now.bits in
    let long = c.and_assign-in-Tested.auto.span in
    c.and_test.ensures.inside p (omega arith) (omega (arith, below, long))
    ∙ ap (λ b. b && passes c.in-Tested.test (number c.args.slices.now r)) (c.and_assign-in-Tested.ensures.bits p below)
    ∙ and_assoc was (get_or not_null r false) (passes c.in-Tested.test (number c.args.slices.now r))
    ∙ ap (λ b. was && b) (sym (ap (λ s. get_or not_null r false && decides s (number c.args.slices.now r)) c.in-Tested.is))
    ∙ tested_decided not_null c.args.slices.now c.args.op c.args.constant (1 * 2 ^ length c.args.slices.now % 2 ^ 64) size_is c.decide.result c.decide.ensures.decided was r
