use Rattle.std.proofs.Common.{◌≡◌, ◌*◌, ◌≤◌, ◌^◌}
use Rattle.std.specs.Prelude.{sum_by, min}
use Rattle.std.specs.List.{items_where_true}
use Rattle.bsi_components.proofs.range.reads.RangeReads.sum_by_bitmaps.Given as goal

abbrev pub invariant-bitmaps : goal.invariant-bitmaps
invariant-bitmaps l = record {
  summed : l.sum ≡ sum_by (λ v. min v l.j) (items_where_true l.selection.bits l.component.digits);
  few : l.sum ≤ l.j * 2 ^ 64;
}
