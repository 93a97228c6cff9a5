use Rattle.std.proofs.Common.{◌≡◌, ◌+◌, ◌<◌, ◌≤◌, ℕ, [], length, map, get_or}
use Rattle.bsi_columns.proofs.growth.clear_each.Given as goal

-- the components before that index are empty, and the others are as they were
abbrev pub invariant-loop-component : goal.invariant-loop-component
invariant-loop-component g l = record {
  bases : map g.E.Encoding.base_of l.component-items ≡ map g.E.Encoding.base_of l.fn.components.items;
  done : (k : ℕ) → k < l.component-index → get_or (map g.E.Encoding.digits l.component-items) k [] ≡ [];
  room : (k : ℕ) → k < l.component-index → length (get_or (map g.E.Encoding.digits l.fn.components.items) k []) + get_or (map g.E.Encoding.room_of l.fn.components.items) k 0
      ≤ get_or (map g.E.Encoding.room_of l.component-items) k 0;
  digits_left : (k : ℕ) → l.component-index ≤ k → get_or (map g.E.Encoding.digits l.component-items) k [] ≡ get_or (map g.E.Encoding.digits l.fn.components.items) k [];
  room_left : (k : ℕ) → l.component-index ≤ k → get_or (map g.E.Encoding.room_of l.component-items) k 0 ≡ get_or (map g.E.Encoding.room_of l.fn.components.items) k 0;
}
