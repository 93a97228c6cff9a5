use Rattle.std.proofs.Common.{ℕ, ◌<◌, Vec, Global, get_or, IsTrue}
use Rattle.bsi_survey.specs.Made.{is_null_by, AddsNulls}
use Rattle.bsi_survey.proofs.making.add_words.Given as goal

-- the words so far are nulls
abbrev pub invariant-words : goal.invariant-words
invariant-words l = record {
  adds : AddsNulls l.initial.logical l.logical;
  nulls : (k : ℕ) (d : Vec ℕ Global) → k < l.word-index → IsTrue (is_null_by l.logical.nulls (get_or l.words k d).items);
}
