use Rattle.std.proofs.Common.{◌≡◌, Vec, Global, ℕ, map, take}
use Rattle.bsi_logical.specs.HeaderTitles.{titles_of}
use Rattle.bsi_survey.proofs.titling.list_titles.Given as goal

-- the titles so far are listed
abbrev pub invariant-fields : goal.invariant-fields
invariant-fields l =
    map (λ (title : Vec ℕ Global). title.items) l.titles.items ≡ take l.index (titles_of (map (λ (field : Vec ℕ Global). field.items) l.header))
