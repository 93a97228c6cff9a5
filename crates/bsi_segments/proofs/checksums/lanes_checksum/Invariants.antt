use Rattle.std.proofs.Common.{◌≡◌, ◌*◌, length, drop}
use Rattle.bsi_segments.specs.Lanes.{lanes_from}
use Rattle.bsi_segments.proofs.checksums.lanes_checksum.Given as goal

-- the rest gives the same
abbrev pub invariant-fours : goal.invariant-fours
invariant-fours l = lanes_from l.a l.b l.c l.d (drop (4 * l.i) l.words) ≡ lanes_from (length l.words) 1 2 3 l.words

abbrev pub invariant-rest : goal.invariant-rest
invariant-rest l = lanes_from l.a l.b l.c l.d (drop l.k l.words) ≡ lanes_from (length l.words) 1 2 3 l.words
