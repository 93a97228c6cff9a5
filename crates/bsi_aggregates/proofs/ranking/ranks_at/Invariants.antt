use Rattle.std.proofs.Common.{◌≡◌, ◌<◌, ◌≤◌, ℕ, None, length, get_or}
use Rattle.std.specs.Vec.{vec_capacity}
use Rattle.bsi_digits.specs.Orders.{values_at}
use Rattle.bsi_digits.specs.Ranks.{IsSignedRankOf}
use Rattle.bsi_shift.specs.Shifted.{shifted_entries}
use Rattle.bsi_aggregates.proofs.ranking.ranks_at.Given as goal

-- the ranks so far are answered, and there is room for the others
abbrev pub invariant-ranks : goal.invariant-ranks
invariant-ranks l = record {
  long : length l.numbers.items ≡ l.rank-index;
  room : length l.ranks ≤ vec_capacity l.numbers;
  each : (k : ℕ) → k < l.rank-index → IsSignedRankOf (get_or l.ranks k 0) (values_at l.selection.bits (shifted_entries l.column)) (get_or l.numbers.items k None);
}
