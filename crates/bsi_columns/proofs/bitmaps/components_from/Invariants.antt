use Rattle.std.proofs.Common.{◌≡◌, length, map}
use Rattle.std.specs.Vec.{vec_capacity}
use Rattle.bsi_columns.proofs.FromBitmaps.{IsReadUpTo}
use Rattle.bsi_columns.proofs.bitmaps.components_from.Given as goal

-- the components so far, and the places that are left
abbrev pub invariant-components : goal.invariant-components
invariant-components g l = record {
  room : vec_capacity l.components ≡ length l.bases;
  long : length l.components.items ≡ l.i;
  read : IsReadUpTo l.bases l.fn.places.items l.i (map g.E.Encoding.base_of l.components.items) (map g.E.Encoding.digits l.components.items) l.places.items;
}
