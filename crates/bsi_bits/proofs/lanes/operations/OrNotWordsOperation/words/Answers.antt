use Rattle.std.proofs.Common.{bit_or}
use Rattle.std.specs.Int.{bit_not, w64}
use Rattle.bsi_bits.proofs.Pairs.{zip2-map_right}
use Rattle.bsi_bits.proofs.lanes.operations.OrNotWordsOperation.words.Goals as goal

-- the complement of the second word is taken first
pub returns : goal.returns
returns c = zip2-map_right bit_or (bit_not w64) c.args.a c.args.b
