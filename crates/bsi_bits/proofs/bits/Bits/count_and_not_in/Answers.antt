use Rattle.std.proofs.Common.{◌^◌, ◌<◌, ◌≤◌, length, ◌∙◌, arith}
use Rattle.std.specs.Prelude.{bit_and}
use Rattle.std.specs.Int.{bit_not, w64}
use Rattle.std.proofs.lemmas.Nat.{and_le_l}
use Rattle.bsi_bits.specs.BitList.{without}
use Rattle.bsi_bits.proofs.Logic.{and_not_bitwise}
use Rattle.bsi_bits.proofs.InWords.{count_pairs_in, shown_bits, shown_packed}
use Rattle.bsi_bits.proofs.bits.Bits.count_and_not_in.Goals as goal

pub returns : goal.returns
returns c =
    let bits = c.args.self.now.bits in
    let others = c.args.other.now.bits in
    let few : length bits ≤ 2 ^ 32 = omega (arith, c.len.ensures.len, c.len.ensures.within) in
    c.count_and_not.ensures.ones
    ∙ count_pairs_in (λ y. y < 2 ^ 64) (λ x y. bit_and x (bit_not w64 y)) without and_not_bitwise (λ x y. and_le_l x (bit_not w64 y)) bits others c.words.result.now c.words-2.result.now
    (shown_packed bits c.words.result.now c.words.ensures.few c.words.ensures.places few) (shown_bits bits c.words.result.now c.words.ensures.few c.words.ensures.places)
    (shown_packed others c.words-2.result.now c.words-2.ensures.few c.words-2.ensures.places (omega (arith, few, c.requires.same))) (shown_bits others c.words-2.result.now c.words-2.ensures.few c.words-2.ensures.places)
    c.requires.same c.args.start c.args.end c.requires.forward (omega (arith, c.words.ensures.few, c.requires.within)) c.know_fits.ensures c.know_fits-2.ensures
