use Rattle.std.proofs.Common.{◌≡◌, ◌+◌, ◌*◌, ◌/◌, ◌%◌, ◌^◌, ◌<◌, ◌++◌, false, length, take, drop, map, replicate, get_or, ◌∙◌, ap, arith}
use Rattle.std.proofs.lemmas.Nat.{one_shl}
use Rattle.std.proofs.lemmas.Result.{IfOk-weaker}
use Rattle.bsi_bits.specs.Packed.{bit_of, bits_of}
use Rattle.bsi_bits.proofs.Logic.{written}
use Rattle.bsi_digits.specs.Comparisons.{selects}
use Rattle.bsi_slices.specs.Slices.{entries_in}
use Rattle.bsi_slices.proofs.SliceSelections.{selected_none, selected_all, selected_tested}
use Rattle.bsi_slices.proofs.slices.compare.select.Goals as goal

-- no number below the size
pub returns-in-Nothing : goal.returns-in-Nothing
returns-in-Nothing c =
    let few : length c.args.slices.now < 64 = omega arith in
    let size_is : 1 * 2 ^ length c.args.slices.now % 2 ^ 64 ≡ 2 ^ length c.args.slices.now = one_shl (length c.args.slices.now) 64 few in
    IfOk-weaker c.filled.result (λ b. b.bits ≡ replicate c.len.result false) (λ b. b.bits ≡ map (selects c.args.op c.args.constant) (entries_in c.args.not_null.now.bits c.args.slices.now))
    (λ b is. selected_none c.args.not_null.now.bits c.args.slices.now c.args.op c.args.constant (1 * 2 ^ length c.args.slices.now % 2 ^ 64) size_is c.decide.result c.decide.ensures.decided c.in-Nothing.is b.bits c.len.result c.len.ensures.len is)
    c.filled.ensures

-- each number below the size
pub returns-in-Everything : goal.returns-in-Everything
returns-in-Everything c =
    let few : length c.args.slices.now < 64 = omega arith in
    let size_is : 1 * 2 ^ length c.args.slices.now % 2 ^ 64 ≡ 2 ^ length c.args.slices.now = one_shl (length c.args.slices.now) 64 few in
    IfOk-weaker c.copy.result (λ b. b.bits ≡ c.args.not_null.now.bits) (λ b. b.bits ≡ map (selects c.args.op c.args.constant) (entries_in c.args.not_null.now.bits c.args.slices.now))
    (λ b is. selected_all c.args.not_null.now.bits c.args.slices.now c.args.op c.args.constant (1 * 2 ^ length c.args.slices.now % 2 ^ 64) size_is c.decide.result c.decide.ensures.decided c.in-Everything.is b.bits is)
    c.copy.ensures

-- the numbers that pass the test, of which those of the rows that are there are kept
pub returns-in_ok-copy-in-Tested : goal.returns-in_ok-copy-in-Tested
returns-in_ok-copy-in-Tested c =
    let few : length c.args.slices.now < 64 = omega arith in
    let size_is : 1 * 2 ^ length c.args.slices.now % 2 ^ 64 ≡ 2 ^ length c.args.slices.now = one_shl (length c.args.slices.now) 64 few in
    let old_is = c.deref_mut.ensures.value in
    let copied = c.in_ok-copy-in-Tested.ensures in
    let stored : take c.into_words-words.result.len (c.and_test.new.words ++ drop (length c.and_test.new.words) c.into_words-words.result.items) ≡ c.and_test.new.words =
    written c.into_words-words.result.len c.and_test.new.words c.into_words-words.result.items (omega arith) (omega arith) in
    selected_tested c.args.not_null.now.bits c.args.slices.now c.args.op c.args.constant (1 * 2 ^ length c.args.slices.now % 2 ^ 64) size_is c.decide.result c.decide.ensures.decided
    c.in-Tested.test c.in-Tested.is
    c.from_words.result.bits c.deref_mut.result.now c.and_test.new.words c.len-in-Tested.result c.len-in-Tested.ensures.len
    (ap length old_is ∙ c.into_words-words.ensures.few ∙ ap (λ b. (length b + 63) / 64) copied)
    (λ r. ap (λ ws. bit_of ws r) old_is ∙ c.into_words-words.ensures.places r ∙ ap (λ b. get_or b r false) copied)
    c.and_test.ensures
    (c.from_words.ensures ∙ ap (bits_of c.len-in-Tested.result) stored)
