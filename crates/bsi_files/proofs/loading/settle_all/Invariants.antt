use Rattle.std.proofs.Common.{◌≡◌}
use Rattle.std.specs.Vec.Iter.{into_iter_items}
use Rattle.bsi_files.proofs.Progress.{HasSettled}
use Rattle.bsi_files.proofs.loading.settle_all.Given as goal

-- the first closings were settled
abbrev pub invariant-ends : goal.invariant-ends
invariant-ends g l = record {
  same : l.loader.system ≡ l.initial.loader.system;
  settled : HasSettled l.loader.system l.fn.ends.items (into_iter_items l.end-iterator) l.loader.progress l.fed.items;
}
