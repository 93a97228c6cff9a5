use Rattle.std.proofs.Common.{◌*◌}
use Rattle.std.specs.Prelude.{min}
use Rattle.bsi_columns.specs.Extremes.{IsExtremeUpto}
use Rattle.bsi_columns.proofs.decomposed.Decomposed.extreme_in_spans.Given as goal

-- the best one of the spans so far
abbrev pub invariant-span : goal.invariant-span
invariant-span g l = IsExtremeUpto l.extreme l.selection.bits l.self.entries (64 * min (32 * l.k) l.len) l.best
