use Rattle.std.proofs.Common.{◌+◌, ◌<◌, length, ap, arith}
use Rattle.std.specs.Prelude.{count_ones}
use Rattle.std.specs.Simd.Lanes.{zip2}
use Rattle.std.proofs.lemmas.Nat.{ones-le}
use Rattle.std.proofs.lemmas.Simd.{length-zip2, get_or-zip2}
use Rattle.bsi_bits.proofs.Summing.{sum_block_more}
use Rattle.bsi_bits.proofs.lanes.adders.count_singly.Goals as goal

-- one word more
pub words-preserved : goal.words-preserved
words-preserved g c =
    let made = zip2 g.O.Operation.word_of c.args.a.now c.args.b.now in
    let place = c.args.at + c.words.k in
    let within : place < length made = omega (arith, c.requires.same, length-zip2 g.O.Operation.word_of c.args.a.now c.args.b.now c.requires.same) in
    let is = get_or-zip2 g.O.Operation.word_of c.args.a.now c.args.b.now place 0 0 0 (omega arith) (omega (arith, c.requires.same)) in
    let word = ap count_ones c.word.ensures in
    let made_word = ap count_ones is in
    record {
      counted = omega (arith, c.words.invariant.counted, sum_block_more count_ones made c.args.at c.words.k within, word, made_word);
      few = omega (arith, ones-le 64 c.word.result c.word.type_inv);
    }
