use Rattle.std.proofs.Common.{ℕ, ◌<◌, Vec, Global, map}
use Rattle.bsi_survey.specs.Titles.{IsRepeated}
use Rattle.bsi_survey.proofs.repeated.find_repeated.Given as goal

-- no column so far is repeated
abbrev pub invariant-columns : goal.invariant-columns
invariant-columns l = (k : ℕ) → k < l.c → IsRepeated (map (λ (title : Vec ℕ Global). title.items) l.titles) k → ⊥
