use Rattle.std.proofs.Common.{◌≡◌, ◌*◌, ◌≤◌, ◌^◌, cond}
use Rattle.std.specs.Prelude.{sum_by, nat_lt}
use Rattle.std.specs.List.{items_where_true}
use Rattle.bsi_components.proofs.equality.reads.EqualityReads.sum_by_bitmaps.Given as goal

abbrev pub invariant-digits : goal.invariant-digits
invariant-digits l = record {
  summed : l.sum ≡ sum_by (λ v. cond (nat_lt v l.j) v 0) (items_where_true l.selection.bits l.component.digits);
  few : l.sum ≤ l.j * (1024 * 2 ^ 64);
}
