use Rattle.std.proofs.Common.{◌^◌, ◌≤◌, ◌&&◌, length, ◌∙◌, arith}
use Rattle.std.specs.Prelude.{bit_and}
use Rattle.std.proofs.lemmas.Nat.{and_le_l}
use Rattle.bsi_bits.proofs.Logic.{and_bitwise}
use Rattle.bsi_bits.proofs.InWords.{count_pairs_in, shown_bits, shown_packed}
use Rattle.bsi_bits.proofs.bits.Bits.count_and_in.Goals as goal

pub returns : goal.returns
returns c =
    let bits = c.args.self.now.bits in
    let others = c.args.other.now.bits in
    let few : length bits ≤ 2 ^ 32 = omega (arith, c.len.ensures.len, c.len.ensures.within) in
    c.count_and.ensures.ones
    ∙ count_pairs_in (λ _. Unit {0}) bit_and ◌&&◌ and_bitwise and_le_l bits others c.words.result.now c.words-2.result.now
    (shown_packed bits c.words.result.now c.words.ensures.few c.words.ensures.places few) (shown_bits bits c.words.result.now c.words.ensures.few c.words.ensures.places)
    (shown_packed others c.words-2.result.now c.words-2.ensures.few c.words-2.ensures.places (omega (arith, few, c.requires.same))) (shown_bits others c.words-2.result.now c.words-2.ensures.few c.words-2.ensures.places)
    c.requires.same c.args.start c.args.end c.requires.forward (omega (arith, c.words.ensures.few, c.requires.within)) c.know_fits.ensures (λ k. tt)
