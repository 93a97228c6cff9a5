use Rattle.std.proofs.Common.{◌≡◌, ◌<◌, ℕ, Vec, Global, [], get_or, map}
use Rattle.bsi_survey.proofs.joining.are_same_fields.Given as goal

-- the fields so far are the same
abbrev pub invariant-fields : goal.invariant-fields
invariant-fields l =
    (j : ℕ) → j < l.k → get_or (map (λ (field : Vec ℕ Global). field.items) l.first) j [] ≡ get_or (map (λ (field : Vec ℕ Global). field.items) l.second) j []
