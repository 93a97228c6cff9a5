use Rattle.std.proofs.Common.{◌≡◌, ℕ, ◌<◌, Vec, Global, map}
use Rattle.bsi_survey.specs.Titles.{title_in}
use Rattle.bsi_survey.proofs.repeated.is_repeated.Given as goal

-- the columns so far have other titles
abbrev pub invariant-columns : goal.invariant-columns
invariant-columns l =
    (j : ℕ) → j < l.k → title_in (map (λ (title : Vec ℕ Global). title.items) l.titles) j ≡ title_in (map (λ (title : Vec ℕ Global). title.items) l.titles) l.c → ⊥
