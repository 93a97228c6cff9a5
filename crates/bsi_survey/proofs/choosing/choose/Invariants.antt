use Rattle.std.proofs.Common.{◌≡◌, ◌++◌, Vec, Global, ℕ, drop, map}
use Rattle.bsi_survey.specs.Choices.{chosen_indexes, wanted_titles}
use Rattle.bsi_survey.proofs.choosing.choose.Given as goal

-- the columns so far, and those of the titles that are left
abbrev pub invariant-titles : goal.invariant-titles
invariant-titles l =
    let titles = map (λ (title : Vec ℕ Global). title.items) l.titles in
    chosen_indexes (wanted_titles l.wanted) 0 titles ≡ l.indexes.items ++ chosen_indexes (wanted_titles l.wanted) l.index (drop l.index titles)
