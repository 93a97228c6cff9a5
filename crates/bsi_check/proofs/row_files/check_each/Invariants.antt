use Rattle.std.specs.Vec.Iter.{into_iter_items}
use Rattle.bsi_check.specs.Reports.{IsFileChecked}
use Rattle.bsi_check.proofs.Joined.{HasAdded}
use Rattle.bsi_check.proofs.row_files.check_each.Given as goal

-- the files so far were checked, and reasons written
abbrev pub invariant-files : goal.invariant-files
invariant-files g l =
    HasAdded (IsFileChecked g.S.Read.remaining (g.F.RowFormat.format l.format)) l.fn.rows.items (into_iter_items l.named-iterator) l.files.items l.initial.reasons.items l.reasons.items
