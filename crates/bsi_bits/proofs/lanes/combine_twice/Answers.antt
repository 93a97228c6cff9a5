use Rattle.std.proofs.Common.{◌*◌, ◌+◌, arith}
use Rattle.bsi_bits.proofs.Filling.{filled_block_twice, filled_pairs_twice}
use Rattle.bsi_bits.proofs.lanes.combine_twice.Goals as goal

pub fours-preserved : goal.fours-preserved
fours-preserved g c =
    rw (c.words-second.ensures, c.words-first.ensures)
    (filled_block_twice g.O.Operation.word_of g.P.Operation.word_of (4 * c.fours.k) c.args.a.now c.args.b.now c.args.c.now c.fours.a
    c.requires.first c.requires.second c.fours.invariant 4 (4 * (c.fours.k + 1)) (omega arith) (omega arith))

-- no word is left
pub returns : goal.returns
returns g c =
    filled_pairs_twice g.O.Operation.word_of g.P.Operation.word_of c.rest.i c.args.a.now c.args.b.now c.args.c.now c.rest.a c.requires.first c.requires.second c.rest.invariant (omega arith)
