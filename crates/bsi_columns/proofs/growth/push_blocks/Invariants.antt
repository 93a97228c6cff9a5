use Rattle.std.proofs.Common.{◌≡◌, ◌+◌, ◌<◌, ◌≤◌, ℕ, [], ◌++◌, length, map, get_or}
use Rattle.bsi_digits.specs.Digits.{digit_of, weight}
use Rattle.bsi_columns.specs.Decomposed.{AreQuotients}
use Rattle.bsi_columns.proofs.growth.push_blocks.Given as goal

abbrev pub invariant-loop-i : goal.invariant-loop-i
invariant-loop-i g l = record {
  quotients : AreQuotients l.numbers (weight l.bases l.i) l.quotients;
  bases : map g.E.Encoding.base_of l.components.items ≡ l.bases;
  done : (k : ℕ) → k < l.i → get_or (map g.E.Encoding.digits l.components.items) k []
      ≡ get_or (map g.E.Encoding.digits l.fn.components.items) k [] ++ map (λ n. digit_of l.bases n k) l.numbers;
  rest : (k : ℕ) → l.i ≤ k → get_or (map g.E.Encoding.digits l.components.items) k []
      ≡ get_or (map g.E.Encoding.digits l.fn.components.items) k [];
  spent : (k : ℕ) → get_or (map g.E.Encoding.room_of l.fn.components.items) k 0 ≤ get_or (map g.E.Encoding.room_of l.components.items) k 0 + length l.numbers;
  room : (k : ℕ) → l.i ≤ k → get_or (map g.E.Encoding.room_of l.components.items) k 0 ≡ get_or (map g.E.Encoding.room_of l.fn.components.items) k 0;
}
