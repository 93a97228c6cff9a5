use Rattle.std.proofs.Common.{◌≡◌, ◌<◌, ℕ, Vec, Global, [], get_or, map}
use Rattle.bsi_logical.proofs.logical.comparing.are_same_words.Given as goal

-- the words so far are the same
abbrev pub invariant-words : goal.invariant-words
invariant-words l =
    (j : ℕ) → j < l.k → get_or (map (λ (word : Vec ℕ Global). word.items) l.first) j [] ≡ get_or (map (λ (word : Vec ℕ Global). word.items) l.second) j []
