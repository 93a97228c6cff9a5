use Rattle.std.proofs.Common.{◌≡◌, ℕ, ◌+◌, ◌*◌, ◌&&◌, None, is_some, length, length-take, take, get_or, replicate, ap, ◌∙◌, arith}
use Rattle.std.proofs.lemmas.List.{length-replicate}
use Rattle.bsi_bits.specs.Packed.{bit_of}
use Rattle.bsi_slices.specs.Decisions.{as_expected}
use Rattle.bsi_columns.specs.Extremes.{number_at}
use Rattle.bsi_columns.proofs.DigitRelations.{entries_narrowed, row_within, expected_holds}
use Rattle.bsi_columns.proofs.decomposed.Decomposed.and_compare_block.Goals as goal

pub returns-clause-rows : goal.returns-clause-rows
returns-clause-rows g c = λ p below.
    let r = 64 * c.args.at + p in
    let comparison = c.args.comparison in
    let entries = c.args.self.now.entries in
    let others = c.args.other.now.entries in
    let n = length c.args.words.now in
    let prefix : length {A = ℕ} (take n (replicate 512 0)) ≡ n = length-take {A = ℕ} n (replicate 512 0) ∙ omega (arith, length-replicate {A = ℕ} 512 0, c.requires.block) in
    let relation = c.of-relation.result.0 in
    let expected = c.of-relation.result.1 in
    let answer = as_expected expected (bit_of c.relate_rows.new.state p) in
    c.and_expected.ensures.bits p (omega (arith, below, c.and_numbers.ensures.long, c.and_numbers-2.ensures.long))
    ∙ ap (λ b. b && answer) (c.and_numbers-2.ensures.bits p (omega (arith, below, c.and_numbers.ensures.long)) ∙ ap (λ b. b && is_some (get_or others r None)) (c.and_numbers.ensures.bits p below))
    ∙ entries_narrowed comparison (bit_of c.args.words.now p) answer (get_or entries r None) (get_or others r None) (λ there.
    ap (as_expected expected) (c.relate_rows.ensures.bits p (omega (arith, below, prefix)) (row_within entries r there))
    ∙ expected_holds comparison c.requires.more relation expected (number_at entries r) (number_at others r) (c.of-relation.ensures (number_at entries r) (number_at others r)))
