use Rattle.std.proofs.Common.{◌≡◌, ℕ, List, ◌+◌, ◌-◌, ◌*◌, ◌^◌, ◌<◌, ◌&&◌, cond, length, get_or}
use Rattle.bsi_kernels.specs.Listing.{AreListed}
use Rattle.std.specs.Prelude.{IfSome, not, if◌then◌else◌}
use Rattle.std.specs.Simd.Lanes.{zip2}
use Rattle.bsi_bits.specs.BitLists.{bits_at}
use Rattle.bsi_bits.specs.Packed.{bits_of, IsPacked}
use Rattle.bsi_kernels.specs.Places.{has_place, IsEncoded}
use Rattle.bsi_kernels.proofs.PlaceRanks.{IsRankedAbove}
use Rattle.bsi_kernels.proofs.ranks.rows_of_rank.Given as goal

-- the rows that are left are those of the words that are set in the last place or, as chosen, clear there
abbrev pub invariant-places : goal.invariant-places
invariant-places l =
    let selection = l.fn.selection.bits in
    record {
      packed : IsPacked (length selection) l.rows.items;
      listed : IfSome l.listed (λ w. AreListed (length l.rows.items) w.indices w.count l.rows.items);
      within : l.last < length l.places;
      small : l.number < 2 ^ (length l.places - 1 - l.last);
      ranked : (numbers : List ℕ) → IsEncoded has_place l.places numbers → ((k : ℕ) → get_or numbers k 0 < 2 ^ length l.places) → length numbers ≡ length selection
          → IsRankedAbove l.last l.fn.rank selection numbers (l.number * 2 + cond l.choice.is_set 1 0) l.choice.rank
          (zip2 (λ f b. f && (if l.choice.is_set then b else not b)) (bits_of (length selection) l.rows.items) (bits_at l.places l.last));
    }

abbrev pub decreases-places : goal.decreases-places
decreases-places l = l.last
