use Rattle.std.proofs.Common.{◌≡◌, List, ℕ, ◌+◌, ◌*◌, ◌%◌, ◌≤◌, ◌^◌}
use Rattle.std.specs.Prelude.{sum_by}
use Rattle.std.specs.List.{items_where_true}
use Rattle.bsi_bits.specs.BitList.{in_words}
use Rattle.bsi_kernels.specs.Places.{has_place, IsEncoded}
use Rattle.bsi_kernels.proofs.sums.sum_in.Given as goal

-- the lowest places of the numbers are added
abbrev pub invariant-places : goal.invariant-places
invariant-places l = record {
  summed : (numbers : List ℕ) → IsEncoded has_place l.places numbers → l.sum ≡ sum_by (λ v. v % 2 ^ l.k) (items_where_true (in_words l.start l.end l.selection.bits) (in_words l.start l.end numbers));
  few : l.sum + 2 ^ 32 ≤ 2 ^ 32 * 2 ^ l.k;
}
