use Rattle.std.proofs.Common.{◌≡◌, map, take}
use Rattle.bsi_inference.proofs.nulls.usual_null_words.Given as goal

abbrev pub invariant-words : goal.invariant-words
invariant-words l = map (λ w. w.items) l.words.items ≡ map (λ w. w.now) (take l.word-index l.word-items)
