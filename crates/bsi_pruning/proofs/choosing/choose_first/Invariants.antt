use Rattle.bsi_pruning.specs.Named.{HasMore}
use Rattle.bsi_pruning.proofs.choosing.choose_first.Given as goal

-- those that were chosen are
abbrev pub invariant-columns : goal.invariant-columns
invariant-columns l = record { more : HasMore l.initial.chosen.items l.chosen.items }
