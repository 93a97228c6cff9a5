use Rattle.std.proofs.Common.{◌≡◌, length, drop}
use Rattle.bsi_segments.specs.Segments.{checksum_from}
use Rattle.bsi_segments.proofs.checksums.checksum.Given as goal

-- the rest gives the same
abbrev pub invariant-words : goal.invariant-words
invariant-words l = checksum_from l.sum (drop l.word-index l.words) ≡ checksum_from (length l.words) l.words
