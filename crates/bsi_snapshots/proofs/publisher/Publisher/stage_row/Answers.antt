use Rattle.std.proofs.Common.{◌+◌, ◌-◌, ◌≡◌, ◌∷◌, [], drop, length, ap, sym, ◌∙◌, subst, arith}
use Rattle.bsi_rows.specs.Table.{Table}
use Rattle.bsi_snapshots.specs.Versions.{emptied, pending_rows, publisher_state, IsBufferOf, IsPublisher, LastStampIsPrefix}
use Rattle.bsi_snapshots.specs.History.{RowList}
use Rattle.bsi_snapshots.proofs.Writing.{free_rows, on_err, staged_same, staged_stamped, staged_view, staged_writing, with_more, with_staged_view, with_staged_writing}
use Rattle.bsi_snapshots.proofs.publisher.Publisher.stage_row.Goals as goal

-- the rows that are staged stay, wherever they stand
pub invariant_of-self : goal.invariant_of-self
invariant_of-self g c =
    let p = c.self.inside in
    let o = c.flush_long_batch.new in
    staged_same g.B.SystemTag.book g.B.SystemTag.about p.copies.desk.shown.value (drop p.copies.behind p.copies.log.items) p.buffer.rows p.history p.free p.stamped
    c.self.invariant.0 c.self.invariant.2 o.copies.desk.shown.value (drop o.copies.behind o.copies.log.items) o.self
    (ap (λ d. d.shown.value) c.flush_long_batch.ensures.desk) c.flush_long_batch.ensures.staged c.flush_long_batch.ensures.kind

pub returns-in_err-flush_long_batch-clause-err : goal.returns-in_err-flush_long_batch-clause-err
returns-in_err-flush_long_batch-clause-err g c =
    let p = c.self.inside in
    let o = c.flush_long_batch.new in
    on_err c.from_residual.result
    (staged_view p.copies.desk.shown.value (drop p.copies.behind p.copies.log.items) p.buffer.rows o.copies.desk.shown.value (drop o.copies.behind o.copies.log.items) o.self.rows
    (ap (λ d. d.shown.value) c.flush_long_batch.ensures.desk) c.flush_long_batch.ensures.staged ∙ c.self.view_is)

pub invariant_of-self-in_err-push : goal.invariant_of-self-in_err-push
invariant_of-self-in_err-push g c =
    let p = c.self.inside in
    let o = c.flush_long_batch.new in
    let next = o.copies.desk.shown.value in
    let more = drop o.copies.behind o.copies.log.items in
    let unchanged = staged_same g.B.SystemTag.book g.B.SystemTag.about p.copies.desk.shown.value (drop p.copies.behind p.copies.log.items) p.buffer.rows p.history p.free p.stamped
    c.self.invariant.0 c.self.invariant.2 next more o.self (ap (λ d. d.shown.value) c.flush_long_batch.ensures.desk) c.flush_long_batch.ensures.staged c.flush_long_batch.ensures.kind in
    subst (λ (s : Table). IsPublisher g.B.SystemTag.book g.B.SystemTag.about next more s.rows p.history p.free × IsBufferOf next.table s × LastStampIsPrefix g.B.SystemTag.book next more p.stamped)
    (sym c.in_err-push.ensures.err) unchanged

pub returns-in_err-push-clause-err : goal.returns-in_err-push-clause-err
returns-in_err-push-clause-err g c =
    let p = c.self.inside in
    let o = c.flush_long_batch.new in
    let next = o.copies.desk.shown.value in
    let more = drop o.copies.behind o.copies.log.items in
    on_err c.from_residual-in_err-push.result
    (ap (λ (s : Table). publisher_state next more s.rows) c.in_err-push.ensures.err
    ∙ staged_view p.copies.desk.shown.value (drop p.copies.behind p.copies.log.items) p.buffer.rows next more o.self.rows
    (ap (λ d. d.shown.value) c.flush_long_batch.ensures.desk) c.flush_long_batch.ensures.staged ∙ c.self.view_is)

-- and those behind them are staged
pub invariant_of-self-2 : goal.invariant_of-self-2
invariant_of-self-2 g c =
    let book = g.B.SystemTag.book in
    let about = g.B.SystemTag.about in
    let p = c.self.inside in
    let o = c.flush_long_batch.new in
    let shown = p.copies.desk.shown.value in
    let pending = drop p.copies.behind p.copies.log.items in
    let more = drop o.copies.behind o.copies.log.items in
    let same = ap (λ d. d.shown.value) c.flush_long_batch.ensures.desk in
    let added : RowList = (c.args.feeder, c.args.row.now) ∷ [] in
    let grown = c.push.new.self in
    let grows = c.in_ok-push.ensures.ok in
    let rows = ap (λ w. length w.table.rows) c.self.view_is in
    let staged = ap (λ w. length w.staged) c.self.view_is in
    let limit = ap (λ w. w.table.limit) c.self.view_is in
    let free = free_rows shown.table.rows (pending_rows pending) p.buffer.rows shown.table.limit p.free _ _ _ 1 rows staged limit c.self.invariant.0.free_is (omega (arith, c.requires.limit)) in
    let many : (p.free - 1) + length added ≡ p.free = free in
    let writing = staged_writing book about shown pending p.buffer.rows p.history p.free c.self.invariant.0 more o.self.rows c.flush_long_batch.ensures.staged in (
      subst (λ e. IsPublisher book about e more grown.rows p.history (p.free - 1)) (sym same)
          (with_staged_writing book about shown more o.self.rows p.history p.free writing added grown.rows (p.free - 1) (ap (λ b. b.rows) grows) many),
      ap emptied grows ∙ c.flush_long_batch.ensures.kind,
      subst (λ e. LastStampIsPrefix book e more p.stamped) (sym same)
          (staged_stamped book shown pending p.stamped c.self.invariant.2 more p.buffer.rows o.self.rows c.flush_long_batch.ensures.staged),
    )

pub returns-clause-ok : goal.returns-clause-ok
returns-clause-ok g c =
    let p = c.self.inside in
    let o = c.flush_long_batch.new in
    let next = o.copies.desk.shown.value in
    let more = drop o.copies.behind o.copies.log.items in
    let added : RowList = (c.args.feeder, c.args.row.now) ∷ [] in
    with_staged_view next more o.self.rows c.push.new.self.rows added (ap (λ b. b.rows) c.in_ok-push.ensures.ok)
    ∙ ap (λ w. with_more w added)
    (staged_view p.copies.desk.shown.value (drop p.copies.behind p.copies.log.items) p.buffer.rows next more o.self.rows
    (ap (λ d. d.shown.value) c.flush_long_batch.ensures.desk) c.flush_long_batch.ensures.staged ∙ c.self.view_is)
