use Rattle.std.proofs.Common.{◌≡◌, ◌≤◌, length, map, take}
use Rattle.std.specs.Prelude.{vec_capacity}
use Rattle.bsi_rows.specs.Sizes.{new_feeder}
use Rattle.bsi_load.proofs.machine.open_feeders.Given as goal

abbrev pub invariant-feeders : goal.invariant-feeders
invariant-feeders l = (l.feeders.items ≡ map new_feeder (take l.capacity-index l.capacities)) × (length l.capacities ≤ vec_capacity l.feeders)
