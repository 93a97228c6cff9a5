use Rattle.std.proofs.Common.{◌≡◌, ◌++◌}
use Rattle.std.specs.Vec.{vec_capacity}
use Rattle.bsi_segments.specs.Segments.{words_of}
use Rattle.bsi_segments.proofs.words.decode_words.Given as goal

-- the words so far
abbrev pub invariant-words : goal.invariant-words
invariant-words l = record {
  consumed : l.words.items ≡ l.initial.words.items ++ words_of l.k l.bytes;
  room : vec_capacity l.words ≡ vec_capacity l.initial.words;
}
