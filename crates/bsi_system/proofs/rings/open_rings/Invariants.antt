use Rattle.std.proofs.Common.{◌≡◌, ◌≤◌, length, take}
use Rattle.std.specs.Prelude.{vec_capacity}
use Rattle.bsi_system.specs.Rings.{AreOpened}
use Rattle.bsi_system.proofs.rings.open_rings.Given as goal

-- the rings of the capacities so far are opened, and there is room for the others
abbrev pub invariant-capacities : goal.invariant-capacities
invariant-capacities l = record {
  opened : AreOpened l.schema.value (take l.number l.capacities) l.feeders.items l.readers.items;
  feeders : length l.feeders.items ≡ l.number;
  readers : length l.readers.items ≡ l.number;
  feeders_room : length l.capacities ≤ vec_capacity l.feeders;
  readers_room : length l.capacities ≤ vec_capacity l.readers;
}
