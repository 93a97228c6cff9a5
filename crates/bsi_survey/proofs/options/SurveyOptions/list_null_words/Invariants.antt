use Rattle.std.proofs.Common.{◌≡◌, ◌++◌, Vec, Global, ℕ, map, take}
use Rattle.bsi_inference.specs.Nulls.{usual_words}
use Rattle.bsi_survey.proofs.options.SurveyOptions.list_null_words.Given as goal

-- the usual words, and those so far
abbrev pub invariant-nulls : goal.invariant-nulls
invariant-nulls l =
    map (λ (word : Vec ℕ Global). word.items) l.words.items ≡ usual_words ++ take l.word-index (map (λ (word : Vec ℕ Global). word.items) l.self.nulls.items)
