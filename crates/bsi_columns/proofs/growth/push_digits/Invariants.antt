use Rattle.std.proofs.Common.{◌≡◌, ◌+◌, ◌/◌, ◌<◌, ◌≤◌, ℕ, [], ◌∷◌, ◌++◌, map, get_or}
use Rattle.bsi_digits.specs.Digits.{digit_of, weight}
use Rattle.bsi_columns.proofs.growth.push_digits.Given as goal

abbrev pub invariant-loop-i : goal.invariant-loop-i
invariant-loop-i g l = record {
  quotient : l.rest ≡ l.number / weight l.bases l.i;
  bases : map g.E.Encoding.base_of l.components.items ≡ l.bases;
  done : (k : ℕ) → k < l.i → get_or (map g.E.Encoding.digits l.components.items) k []
      ≡ get_or (map g.E.Encoding.digits l.fn.components.items) k [] ++ digit_of l.bases l.number k ∷ [];
  rest : (k : ℕ) → l.i ≤ k → get_or (map g.E.Encoding.digits l.components.items) k []
      ≡ get_or (map g.E.Encoding.digits l.fn.components.items) k [];
  spent : (k : ℕ) → get_or (map g.E.Encoding.room_of l.fn.components.items) k 0 ≤ get_or (map g.E.Encoding.room_of l.components.items) k 0 + 1;
  room : (k : ℕ) → l.i ≤ k → get_or (map g.E.Encoding.room_of l.components.items) k 0 ≡ get_or (map g.E.Encoding.room_of l.fn.components.items) k 0;
}
