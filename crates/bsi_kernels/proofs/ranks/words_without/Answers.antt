use Rattle.std.specs.Prelude.{bit_and}
use Rattle.std.specs.Int.{bit_not, w64}
use Rattle.bsi_bits.proofs.Pairs.{zip2-map_right}
use Rattle.bsi_kernels.proofs.ranks.words_without.Goals as goal

-- the complement of the others is taken first
pub returns : goal.returns
returns c = zip2-map_right bit_and (bit_not w64) c.args.words c.args.others
