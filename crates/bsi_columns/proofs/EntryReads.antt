-- Entries that are read at any row. Past the last row none is there, as in a null row.
use Rattle.std.proofs.Common.{◌≡◌, ℕ, zero, suc, List, [], ◌∷◌, get_or, map, inl, inr, refl, sym, subst}
use Rattle.std.specs.Prelude.{All, Option, None, length}
use Rattle.std.proofs.lemmas.Bool.{cases_lt}
use Rattle.std.proofs.lemmas.List.{get_or_past}
use Rattle.std.proofs.lemmas.List.Elements.{All-get_or}

-- what a function gives for the entry
pub map_read : {X : Type 0} (f : Option ℕ → X) (entries : List (Option ℕ)) (r : ℕ) → get_or (map f entries) r (f None) ≡ f (get_or entries r None)
map_read f [] r = refl
map_read f (e ∷ entries) zero = refl
map_read f (e ∷ entries) (suc r) = map_read f entries r

-- what holds of each entry and of a null
pub all_read : (P : Option ℕ → Type 0) (entries : List (Option ℕ)) (r : ℕ) → P None → All P entries → P (get_or entries r None)
all_read P entries r none all = elim (cases_lt r (length entries)) [
  | inl within ↦ All-get_or P entries r None within all
  | inr past ↦ subst P (sym (get_or_past entries r None past)) none
]
