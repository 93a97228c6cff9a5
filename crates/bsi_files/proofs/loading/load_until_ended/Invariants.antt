use Rattle.std.proofs.Common.{◌≡◌}
use Rattle.bsi_files.proofs.loading.load_until_ended.Given as goal

abbrev pub invariant-rounds : goal.invariant-rounds
invariant-rounds g l =
    (goal.iterator-rounds g).can_next l.iterator' × (goal.iterator-rounds g).is_finite l.iterator'
    × (l.loader.system ≡ l.initial.loader.system)
