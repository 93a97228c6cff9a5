use Rattle.std.proofs.Common.{◌+◌, ◌-◌, ◌≡◌, drop, length, ap, sym, ◌∙◌, arith}
use Rattle.std.proofs.lemmas.List.{length-map}
use Rattle.bsi_rows.specs.RowBlocks.{entries_of, sourced_from}
use Rattle.bsi_snapshots.specs.Versions.{emptied, pending_rows}
use Rattle.bsi_snapshots.specs.History.{RowList}
use Rattle.bsi_snapshots.proofs.Writing.{free_rows, with_more, with_staged_view, with_staged_writing}
use Rattle.bsi_snapshots.proofs.publisher.Publisher.stage_batch.Goals as goal

-- the rows of the batch are staged, behind those that were
pub invariant_of-self-2 : goal.invariant_of-self-2
invariant_of-self-2 g c =
    let p = c.self.inside in
    let shown = p.copies.desk.shown.value in
    let pending = drop p.copies.behind p.copies.log.items in
    let added : RowList = sourced_from c.args.feeder (entries_of c.args.batch.now.rows) in
    let grown = c.push_batch.new.self in
    let grows = c.in_ok-push_batch.ensures.ok in
    let rows = ap (λ w. length w.table.rows) c.self.view_is in
    let staged = ap (λ w. length w.staged) c.self.view_is in
    let limit = ap (λ w. w.table.limit) c.self.view_is in
    let free = free_rows shown.table.rows (pending_rows pending) p.buffer.rows shown.table.limit p.free _ _ _ c.len.result rows staged limit c.self.invariant.0.free_is (omega (arith, c.requires.limit, c.len.ensures.len)) in
    let many : (p.free - c.len.result) + length added ≡ p.free = ap (λ n. (p.free - c.len.result) + n) (length-map (entries_of c.args.batch.now.rows) _ ∙ length-map c.args.batch.now.rows _ ∙ sym c.len.ensures.len) ∙ free in (
      with_staged_writing g.B.SystemTag.book g.B.SystemTag.about shown pending p.buffer.rows p.history p.free c.self.invariant.0 added grown.rows (p.free - c.len.result) (ap (λ t. t.rows) grows) many,
      ap emptied grows ∙ c.self.invariant.1,
      c.self.invariant.2,
    )

pub returns-clause-ok : goal.returns-clause-ok
returns-clause-ok g c =
    let p = c.self.inside in
    let pending = drop p.copies.behind p.copies.log.items in
    let added : RowList = sourced_from c.args.feeder (entries_of c.args.batch.now.rows) in
    with_staged_view p.copies.desk.shown.value pending p.buffer.rows c.push_batch.new.self.rows added (ap (λ t. t.rows) c.in_ok-push_batch.ensures.ok)
    ∙ ap (λ w. with_more w added) c.self.view_is
