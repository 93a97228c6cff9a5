use Rattle.std.proofs.Common.{◌≡◌, ◌<◌, ◌*◌, ℕ, false, length, map, get_or}
use Rattle.std.specs.Prelude.{min}
use Rattle.bsi_bits.specs.Packed.{bit_of}
use Rattle.bsi_slices.specs.Decisions.{relates}
use Rattle.bsi_columns.specs.DigitTests.{answers}
use Rattle.bsi_columns.proofs.decomposed.Decomposed.select_words.Given as goal

abbrev pub invariant-loop-k : goal.invariant-loop-k
invariant-loop-k g l = record {
  long : length l.words.items ≡ min (1024 * l.k) l.len;
  done : (p : ℕ) → p < 64 * length l.words.items → p < length l.self.entries
      → bit_of l.words.items p ≡ get_or (map (answers (λ x. relates l.test.relation x l.test.constant) l.test.expected) l.self.entries) p false;
}
