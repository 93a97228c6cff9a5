use Rattle.std.proofs.Common.{◌+◌, ◌*◌}
use Rattle.bsi_slices.specs.Extremes.{IsExtremeUpto}
use Rattle.bsi_slices.proofs.slices.Slices.extreme_upto.Given as goal

-- the best one of the spans so far
abbrev pub invariant-span : goal.invariant-span
invariant-span g l = IsExtremeUpto l.extreme l.selection.bits l.self.entries (64 * (l.from + g.row.N * l.k)) l.best
