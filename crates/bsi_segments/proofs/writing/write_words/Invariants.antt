use Rattle.std.proofs.Common.{length, take, ◌-◌, ◌≤◌}
use Rattle.std.specs.Io.KnownBytes.{Appends}
use Rattle.bsi_segments.specs.Segments.{bytes_of}
use Rattle.bsi_segments.proofs.writing.write_words.Given as goal

-- the first words went out
abbrev pub invariant-chunks : goal.invariant-chunks
invariant-chunks g l = record {
  within : l.at ≤ length l.words;
  written : Appends (g.W.Write.contents l.initial.writer) (g.W.Write.contents l.writer) (bytes_of (take l.at l.words));
}

abbrev pub decreases-chunks : goal.decreases-chunks
decreases-chunks g l = length l.words - l.at
