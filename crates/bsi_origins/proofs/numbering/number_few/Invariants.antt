use Rattle.std.proofs.Common.{◌≡◌, ◌≤◌, length, take}
use Rattle.std.specs.Prelude.{slice_index_or}
use Rattle.bsi_bits.specs.BitList.{set_positions}
use Rattle.bsi_rows.specs.Numbering.{numbered_at}
use Rattle.bsi_origins.specs.Origins.{AreCountsBefore}
use Rattle.bsi_origins.proofs.numbering.number_few.Given as goal

abbrev pub invariant-rows : goal.invariant-rows
invariant-rows l = record {
  forward : l.at ≤ slice_index_or (set_positions l.selection.bits) (length l.yielded) (length l.selection.bits);
  long : length l.counts ≡ 64;
  counted : AreCountsBefore l.origins.feeders l.origins.rows l.at l.counts;
  rows : l.rows.items ≡ numbered_at l.origins.rows (take (length l.yielded) (set_positions l.selection.bits));
}
