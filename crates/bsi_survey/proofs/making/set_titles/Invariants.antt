use Rattle.std.proofs.Common.{◌≡◌, ◌<◌, ℕ, Vec, Global, [], length, get_or, map}
use Rattle.bsi_survey.proofs.making.set_titles.Given as goal

-- the titles so far are set, and nothing else is changed
abbrev pub invariant-columns : goal.invariant-columns
invariant-columns l = record {
  same : l.logical ≡ record l.initial.logical { titles = l.logical.titles };
  len : length l.logical.titles ≡ length l.titles;
  set : (k : ℕ) → k < l.c → get_or l.logical.titles k [] ≡ get_or (map (λ (title : Vec ℕ Global). title.items) l.titles) k [];
}
