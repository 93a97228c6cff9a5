use Rattle.std.proofs.Common.{◌⊎◌, ℕ, List, map}
use Rattle.std.specs.List.{Contains}
use Rattle.bsi_inference.proofs.Inserting.{AreAdded}
use Rattle.bsi_inference.proofs.text_set.TextSet.add_all.Given as goal

abbrev pub invariant-texts : goal.invariant-texts
invariant-texts l =
    AreAdded (λ t. t.items) (Contains l.initial.self) (Contains l.self) l.text-items l.text-index
    × ((f : List ℕ) → Contains l.self f → Contains l.initial.self f ⊎ Contains (map (λ t. t.items) l.text-items) f)
