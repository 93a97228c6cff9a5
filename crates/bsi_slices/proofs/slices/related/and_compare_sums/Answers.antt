use Rattle.std.proofs.Common.{◌≡◌, ◌+◌, ◌*◌, ◌^◌, ◌<◌, ◌&&◌, not, length, take, length-take, ap, sym, ◌∙◌, arith}
use Rattle.std.specs.Prelude.{bit_and, if◌then◌else◌}
use Rattle.std.specs.Int.{bit_not, w64}
use Rattle.bsi_bits.specs.BitList.{without}
use Rattle.bsi_bits.specs.Packed.{bit_of}
use Rattle.bsi_bits.proofs.Logic.{and_not_bitwise}
use Rattle.bsi_slices.specs.Slices.{number}
use Rattle.bsi_slices.specs.PairRelations.{relation_holds}
use Rattle.bsi_slices.proofs.WordSpans.{and_bit, zipped_bit}
use Rattle.bsi_slices.proofs.slices.related.and_compare_sums.Goals as goal

pub returns-then-expected-clause-bits : goal.returns-then-expected-clause-bits
returns-then-expected-clause-bits c = λ p below.
    let r = 64 * c.args.at + p in
    let x = number c.args.slices.now r + c.args.more in
    let y = number c.args.others.now r in
    let words = c.args.words.now in
    let state = c.relate_rows.new.state in
    let prefix : length (take (length words) c.no_rows-buffer.result) ≡ length words =
    omega (arith, length-take (length words) c.no_rows-buffer.result, c.no_rows-buffer.ensures.long, c.requires.block) in
    let relation = c.of-relation.result.0 in
    ap (λ ws. bit_of ws p) c.and.ensures
    ∙ and_bit words state (sym (c.relate_rows.ensures.long ∙ prefix)) p below
    ∙ ap (◌&&◌ (bit_of words p))
    (c.relate_rows.ensures.bits p (omega (arith, below, prefix))
    ∙ ap (λ one. if one then relation_holds relation x y else not (relation_holds relation x y)) (sym c.if-expected.true) ∙ sym (c.of-relation.ensures x y))

pub returns-else-expected-clause-bits : goal.returns-else-expected-clause-bits
returns-else-expected-clause-bits c = λ p below.
    let r = 64 * c.args.at + p in
    let x = number c.args.slices.now r + c.args.more in
    let y = number c.args.others.now r in
    let words = c.args.words.now in
    let state = c.relate_rows.new.state in
    let prefix : length (take (length words) c.no_rows-buffer.result) ≡ length words =
    omega (arith, length-take (length words) c.no_rows-buffer.result, c.no_rows-buffer.ensures.long, c.requires.block) in
    let relation = c.of-relation.result.0 in
    ap (λ ws. bit_of ws p) c.and_not.ensures
    ∙ zipped_bit (λ y. y < 2 ^ 64) (λ x y. bit_and x (bit_not w64 y)) without and_not_bitwise words state (sym (c.relate_rows.ensures.long ∙ prefix)) c.know_fits.ensures p below
    ∙ ap (λ b. bit_of words p && not b) (c.relate_rows.ensures.bits p (omega (arith, below, prefix)))
    ∙ ap (◌&&◌ (bit_of words p))
    (ap (λ one. if one then relation_holds relation x y else not (relation_holds relation x y)) (sym c.if-expected.false) ∙ sym (c.of-relation.ensures x y))
