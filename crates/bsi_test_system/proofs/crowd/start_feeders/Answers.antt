use Rattle.std.proofs.Common.{◌≡◌, ◌∷◌, All, subst}
use Rattle.std.proofs.lemmas.List.Elements.{All-tail}
use Rattle.std.specs.Vec.Iter.{into_iter_items}
use Rattle.bsi_system.specs.LoaderSteps.{IsFeederOf}
use Rattle.bsi_test_system.proofs.crowd.start_feeders.Goals as goal

-- the feeder whose thread was started stood first among those that were left
pub feeders-preserved : goal.feeders-preserved
feeders-preserved g c =
    let steps : into_iter_items c.feeders.feeder-iterator ≡ c.in-Some.feeder ∷ into_iter_items c.next.new.self = c.in-Some.ensures.steps.0 in (
      All-tail (λ f. IsFeederOf f c.args.loader.now.system) c.in-Some.feeder (into_iter_items c.next.new.self)
          (subst (All (λ f. IsFeederOf f c.args.loader.now.system)) steps c.feeders.invariant.0),
      c.start_next.ensures,
    )
