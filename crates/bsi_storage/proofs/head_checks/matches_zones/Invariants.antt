use Rattle.bsi_storage.specs.ChosenColumns.{HasZones}
use Rattle.bsi_storage.proofs.head_checks.matches_zones.Given as goal

-- the zones of the columns so far
abbrev pub invariant-columns : goal.invariant-columns
invariant-columns l = HasZones l.head l.chosen l.index.rows l.k
