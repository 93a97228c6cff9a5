use Rattle.std.proofs.Common.{subst, sym, ◌∙◌}
use Rattle.std.specs.Vec.Iter.{into_iter_items}
use Rattle.bsi_system.specs.LoaderSteps.{SystemName}
use Rattle.bsi_files.proofs.Progress.{settled_more, HasSettled}
use Rattle.bsi_files.proofs.loading.settle_all.Goals as goal

pub ends-preserved : goal.ends-preserved
ends-preserved g c =
    let rest = into_iter_items c.next.new.self in
    let feds = c.push.new.self.items in
    let now = c.settle_end-left.new.loader.progress in
    record {
      same = c.settle_end-left.ensures.system ∙ c.ends.invariant.same;
      settled = subst (λ (system : SystemName). HasSettled system c.args.ends.items rest now feds) (sym c.settle_end-left.ensures.system)
          (settled_more c.ends.loader.system c.args.ends.items (into_iter_items c.ends.end-iterator) rest c.ends.loader.progress now c.ends.fed.items feds
          c.in-Some.end c.settle_end-left.result c.ends.invariant.settled c.in-Some.ensures.steps.0 c.in_ok-push.ensures.items
          c.settle_end-left.ensures.fed c.settle_end-left.ensures.settled c.settle_end-left.ensures.others c.settle_end-left.ensures.same);
    }
