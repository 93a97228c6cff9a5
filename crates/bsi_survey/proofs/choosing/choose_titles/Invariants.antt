use Rattle.std.proofs.Common.{◌≡◌, [], Vec, Global, ℕ, get_or, map, take}
use Rattle.bsi_survey.proofs.choosing.choose_titles.Given as goal

-- the titles of the columns so far are listed
abbrev pub invariant-indexes : goal.invariant-indexes
invariant-indexes l =
    let titles = map (λ (title : Vec ℕ Global). title.items) l.titles in
    map (λ (title : Vec ℕ Global). title.items) l.chosen.items ≡ map (λ k. get_or titles k []) (take l.index-index l.choice.indexes.items)
