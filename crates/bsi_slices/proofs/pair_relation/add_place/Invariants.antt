use Rattle.std.proofs.Common.{◌≡◌, ℕ, ◌*◌, ◌<◌, ◌≤◌, ◌&&◌, ◌||◌, length, get_or}
use Rattle.std.specs.Prelude.{if◌then◌else◌}
use Rattle.bsi_bits.specs.BitList.{differ}
use Rattle.bsi_bits.specs.Packed.{bit_of}
use Rattle.bsi_slices.proofs.pair_relation.add_place.Given as goal

-- the first k words of both are written
abbrev pub invariant-words : goal.invariant-words
invariant-words l = record {
  long : length l.carry ≡ length l.fn.carry;
  sum_long : length l.sum ≡ length l.fn.carry;
  sums : (p : ℕ) → p < 64 * l.k → bit_of l.sum p ≡ differ (differ (bit_of l.fn.digits p) (bit_of l.fn.carry p)) l.fn.is_one;
  carries : (p : ℕ) → p < 64 * l.k → bit_of l.carry p ≡ (if l.fn.is_one then bit_of l.fn.digits p || bit_of l.fn.carry p else bit_of l.fn.digits p && bit_of l.fn.carry p);
  rest : (i : ℕ) → l.k ≤ i → get_or l.carry i 0 ≡ get_or l.fn.carry i 0;
}
