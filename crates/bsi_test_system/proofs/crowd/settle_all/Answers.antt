use Rattle.std.proofs.Common.{◌≡◌, ◌∷◌, All, subst, sym}
use Rattle.std.proofs.lemmas.List.Elements.{All-head, All-tail}
use Rattle.std.specs.Vec.Iter.{into_iter_items}
use Rattle.bsi_system.specs.LoaderSteps.{IsFeederOf}
use Rattle.bsi_test_system.proofs.crowd.settle_all.Goals as goal

-- the thread that is joined stood first among those that are left
pub settle_one-settled-requires : goal.settle_one-settled-requires
settle_one-settled-requires g c =
    let steps : into_iter_items c.senders.sender-iterator ≡ c.in-Some.sender ∷ into_iter_items c.next.new.self = c.in-Some.ensures.steps.0 in
    All-head (λ s. IsFeederOf s.promise.feeder.value c.senders.loader.system) c.in-Some.sender (into_iter_items c.next.new.self)
    (subst (All (λ s. IsFeederOf s.promise.feeder.value c.senders.loader.system)) steps c.senders.invariant)

-- the rest are of the same system, which a settle leaves as it was
pub senders-preserved : goal.senders-preserved
senders-preserved g c =
    let steps : into_iter_items c.senders.sender-iterator ≡ c.in-Some.sender ∷ into_iter_items c.next.new.self = c.in-Some.ensures.steps.0 in
    let rest = All-tail (λ s. IsFeederOf s.promise.feeder.value c.senders.loader.system) c.in-Some.sender (into_iter_items c.next.new.self)
    (subst (All (λ s. IsFeederOf s.promise.feeder.value c.senders.loader.system)) steps c.senders.invariant) in
    subst (λ system. All (λ s. IsFeederOf s.promise.feeder.value system) (into_iter_items c.next.new.self)) (sym c.settle_one-settled.ensures) rest
