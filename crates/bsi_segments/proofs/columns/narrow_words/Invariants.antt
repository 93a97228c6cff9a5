use Rattle.std.proofs.Common.{◌≡◌, ◌≤◌, length, take}
use Rattle.std.specs.Vec.{vec_capacity}
use Rattle.bsi_segments.proofs.columns.narrow_words.Given as goal

-- the numbers so far
abbrev pub invariant-words : goal.invariant-words
invariant-words l = record {
  consumed : l.bases.items ≡ take l.word-index l.words;
  room : length l.words ≤ vec_capacity l.bases;
}
