use Rattle.std.proofs.Common.{◌≡◌, length, take, ◌-◌, ◌≤◌}
use Rattle.std.specs.Io.KnownBytes.{Consumes}
use Rattle.bsi_segments.proofs.reading.fill.Given as goal

-- the first bytes came in
abbrev pub invariant-bytes : goal.invariant-bytes
invariant-bytes g l = record {
  within : l.at ≤ length l.bytes;
  long : length l.bytes ≡ length l.initial.bytes;
  consumed : Consumes (g.R.Read.remaining l.initial.reader) (g.R.Read.remaining l.reader) (take l.at l.bytes);
}

abbrev pub decreases-bytes : goal.decreases-bytes
decreases-bytes g l = length l.bytes - l.at
