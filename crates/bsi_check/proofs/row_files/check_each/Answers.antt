use Rattle.std.specs.Vec.Iter.{into_iter_items}
use Rattle.bsi_check.proofs.Joined.{added_more}
use Rattle.bsi_check.proofs.row_files.check_each.Goals as goal

pub files-preserved : goal.files-preserved
files-preserved g c =
    added_more c.in-Some.named (into_iter_items c.next.new.self) c.in_ok-finding.finding c.push.new.self.items c.args.reasons.now.items c.files.reasons.items
    c.check_rows.new.reasons.items c.files.invariant c.in-Some.ensures.steps.0 c.in_ok-push.ensures.items (c.in_ok-finding.ensures.finding, c.in_ok-finding.ensures.few, c.in_ok-finding.ensures.reported)
