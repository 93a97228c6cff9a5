use Rattle.std.proofs.Common.{◌≡◌, ◌*◌, ◌≤◌}
use Rattle.std.specs.Prelude.{min}
use Rattle.bsi_table.proofs.Counting.{selected_before}
use Rattle.bsi_table.proofs.selection.count_selected.Given as goal

-- the spans so far are counted
abbrev pub invariant-spans : goal.invariant-spans
invariant-spans l = record {
  counted : l.selected ≡ selected_before l.columns l.pred (min (65536 * l.k) l.rows);
  small : l.selected ≤ 65536 * l.k;
}
