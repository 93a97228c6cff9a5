use Rattle.std.proofs.Common.{drop, ap, ◌∙◌}
use Rattle.bsi_snapshots.specs.Versions.{pending_rows}
use Rattle.bsi_snapshots.proofs.Writing.{stamped_all, pending_rows-stamp}
use Rattle.bsi_snapshots.proofs.copies.stamp_all.Goals as goal

-- the stamp is no row
pub returns-clause-rows : goal.returns-clause-rows
returns-clause-rows g c =
    ap pending_rows c.in_ok-stamp.ensures.ok ∙ pending_rows-stamp (drop c.args.copies.now.behind c.args.copies.now.log.items) c.stamp.new.history

pub returns-clause-stamped : goal.returns-clause-stamped
returns-clause-stamped g c =
    let old = c.args.copies.now in
    let new = c.stamp.new.copies in
    let list = c.in_ok-stamp.ensures.list in
    stamped_all g.B.SystemTag.book old.desk.shown.value (drop old.behind old.log.items) (drop new.behind new.log.items) c.stamp.new.history c.args.len
    c.in_ok-stamp.ensures.ok (ap (λ k. k.book) list ∙ c.requires.book) (ap (λ k. k.list) list) c.requires.len
