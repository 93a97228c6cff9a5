use Rattle.std.proofs.Common.{◌≡◌, ℕ, ◌+◌, ◌-◌, ◌<◌, length, map}
use Rattle.std.specs.Vec.{vec_capacity}
use Rattle.bsi_bits.specs.BitLists.{bits_at}
use Rattle.bsi_components.specs.PlaceNumbers.{numbers_in}
use Rattle.bsi_components.proofs.building.make_bitmaps.Given as goal

-- the bitmaps so far
abbrev pub invariant-digits : goal.invariant-digits
invariant-digits g l = record {
  long : length l.made.items ≡ l.j;
  room : vec_capacity l.made ≡ l.base - g.M.Marking.first l.base + l.more;
  bits : (i : ℕ) → i < l.j → bits_at l.made.items i ≡ map (g.M.Marking.marks (g.M.Marking.first l.base + i)) (numbers_in l.places);
}
