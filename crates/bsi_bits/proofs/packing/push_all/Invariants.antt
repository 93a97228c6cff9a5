use Rattle.std.proofs.Common.{◌≡◌, [], ◌∷◌, ◌++◌}
use Rattle.std.specs.Prelude.{vec_capacity}
use Rattle.bsi_bits.proofs.Joining.{Carries}
use Rattle.bsi_bits.proofs.packing.push_all.Given as goal

abbrev pub invariant-words : goal.invariant-words
invariant-words l = record {
  carries : Carries l.n l.word-index l.more l.fn.words.items (l.words.items ++ l.carried ∷ []);
  capacity : vec_capacity l.words ≡ vec_capacity l.fn.words;
}
