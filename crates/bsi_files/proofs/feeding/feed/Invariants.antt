use Rattle.std.proofs.Common.{◌*◌, ◌≤◌}
use Rattle.bsi_files.specs.Feeding.{max_batch_rows}
use Rattle.bsi_files.proofs.Feeds.{HasSent}
use Rattle.bsi_files.proofs.feeding.feed.Given as goal

-- so many rows were sent, the first ones that the source still had
abbrev pub invariant-batches : goal.invariant-batches
invariant-batches g l = record {
  sent : HasSent g.F.RowFormat.format g.I.Read.remaining l.initial.feeder l.initial.source l.accepted l.feeder l.source;
  few : l.accepted ≤ max_batch_rows * l.counter;
}
