use Rattle.std.proofs.Common.{◌≡◌, ◌≤◌, [], length, map, take, replicate}
use Rattle.std.specs.Vec.{vec_capacity}
use Rattle.bsi_columns.proofs.decomposed.make_each.Given as goal

abbrev pub invariant-loop-i : goal.invariant-loop-i
invariant-loop-i g l = record {
  long : length l.components.items ≡ l.i;
  room : length l.bases ≤ vec_capacity l.components;
  digits : map g.E.Encoding.digits l.components.items ≡ replicate l.i [];
  bases : map g.E.Encoding.base_of l.components.items ≡ take l.i l.bases;
}
