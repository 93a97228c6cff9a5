use Rattle.std.proofs.Common.{◌≡◌, ◌<◌, ◌≤◌, ℕ, map, get_or}
use Rattle.bsi_columns.proofs.growth.reserve_each.Given as goal

abbrev pub invariant-loop-component : goal.invariant-loop-component
invariant-loop-component g l = record {
  digits : map g.E.Encoding.digits l.component-items ≡ map g.E.Encoding.digits l.fn.components.items;
  bases : map g.E.Encoding.base_of l.component-items ≡ map g.E.Encoding.base_of l.fn.components.items;
  no_less : (k : ℕ) → get_or (map g.E.Encoding.room_of l.fn.components.items) k 0 ≤ get_or (map g.E.Encoding.room_of l.component-items) k 0;
  room : (k : ℕ) → k < l.component-index → l.more ≤ get_or (map g.E.Encoding.room_of l.component-items) k 0;
}
