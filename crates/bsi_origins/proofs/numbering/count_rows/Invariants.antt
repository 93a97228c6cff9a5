use Rattle.std.proofs.Common.{◌≡◌, length}
use Rattle.bsi_origins.specs.Origins.{AreCountsBefore}
use Rattle.bsi_origins.proofs.numbering.count_rows.Given as goal

abbrev pub invariant-rows : goal.invariant-rows
invariant-rows l = record {
  long : length l.counts ≡ 64;
  counted : AreCountsBefore l.origins.feeders l.origins.rows l.r l.counts;
}
