use Rattle.std.proofs.Common.{◌≡◌, ◌≤◌, length, map, take}
use Rattle.std.specs.Vec.{vec_capacity}
use Rattle.bsi_columns.proofs.decomposed.copy_each.Given as goal

abbrev pub invariant-loop-component : goal.invariant-loop-component
invariant-loop-component g l = record {
  long : length l.copies.items ≡ l.component-index;
  room : length l.components.items ≤ vec_capacity l.copies;
  digits : map g.E.Encoding.digits l.copies.items ≡ map g.E.Encoding.digits (take l.component-index l.components.items);
  bases : map g.E.Encoding.base_of l.copies.items ≡ map g.E.Encoding.base_of (take l.component-index l.components.items);
}
