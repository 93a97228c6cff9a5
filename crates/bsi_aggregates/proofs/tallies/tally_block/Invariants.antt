use Rattle.std.proofs.Common.{◌+◌, ◌*◌}
use Rattle.std.specs.Option.{option_map}
use Rattle.bsi_shift.specs.Shifted.{shifted_entries}
use Rattle.bsi_aggregates.specs.Tallies.{entries_or_nulls, AreEntryTallies}
use Rattle.bsi_aggregates.proofs.tallies.tally_block.Given as goal

-- the rows of the block so far are tallied
abbrev pub invariant-rows : goal.invariant-rows
invariant-rows l = AreEntryTallies l.keys (entries_or_nulls l.selection.bits (option_map (λ c. shifted_entries c.now) l.entries)) l.selection.bits (64 * l.at + l.r) l.tallies
