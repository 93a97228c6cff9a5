use Rattle.std.proofs.Common.{◌-◌, ◌≤◌}
use Rattle.bsi_segments.specs.Segments.{ReadsWords}
use Rattle.bsi_segments.proofs.reading.read_words.Given as goal

-- the words so far
abbrev pub invariant-chunks : goal.invariant-chunks
invariant-chunks g l = record {
  within : l.left ≤ l.count;
  consumed : ReadsWords (g.R.Read.remaining l.initial.reader) (g.R.Read.remaining l.reader) (l.count - l.left) l.initial.words.items l.words.items;
}

abbrev pub decreases-chunks : goal.decreases-chunks
decreases-chunks g l = l.left
