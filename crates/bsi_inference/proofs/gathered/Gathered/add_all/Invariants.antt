use Rattle.std.proofs.Common.{◌≡◌, ◌⊎◌, ℕ, List, map}
use Rattle.std.specs.List.{Contains}
use Rattle.bsi_inference.specs.Gatherings.{HasText}
use Rattle.bsi_inference.specs.declared.gathered.Gathering.TheVariants.{Missing}
use Rattle.bsi_inference.proofs.Inserting.{AreAdded}
use Rattle.bsi_inference.proofs.gathered.Gathered.add_all.Given as goal

abbrev pub invariant-texts : goal.invariant-texts
invariant-texts l =
    AreAdded (λ t. t.items) (HasText l.initial.self) (HasText l.self) l.text-items l.text-index
    × (l.self.state ≡ Missing → l.initial.self.state ≡ Missing)
    × ((f : List ℕ) → Contains l.self.texts f → Contains l.initial.self.texts f ⊎ Contains (map (λ t. t.items) l.text-items) f)
