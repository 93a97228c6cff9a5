use Rattle.std.proofs.Common.{◌≡◌, length}
use Rattle.bsi_rows.specs.Numbering.{numbered_at}
use Rattle.bsi_origins.specs.Origins.{AreCountsBefore}
use Rattle.bsi_origins.proofs.Numbers.{places_below}
use Rattle.bsi_origins.proofs.numbering.number_many.Given as goal

abbrev pub invariant-rows : goal.invariant-rows
invariant-rows l = record {
  long : length l.counts ≡ 64;
  counted : AreCountsBefore l.origins.feeders l.origins.rows l.r l.counts;
  rows : l.listed.items ≡ numbered_at l.origins.rows (places_below l.selection.bits l.r);
}
