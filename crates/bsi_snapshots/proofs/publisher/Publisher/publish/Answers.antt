use Rattle.std.proofs.Common.{◌≡◌, ◌++◌, List, drop, length, ap, sym, ◌∙◌, subst}
use Rattle.std.specs.Prelude.{fold}
use Rattle.bsi_rows.specs.Table.{Table}
use Rattle.bsi_snapshots.specs.History.{RowList, Version}
use Rattle.bsi_snapshots.specs.Versions.{after, emptied, pending_rows, with_all_published, IsBufferOf, IsPublisher, IsVersionOf, LastStampIsPrefix}
use Rattle.bsi_snapshots.specs.declared.operation.Operation.{Operation}
use Rattle.bsi_snapshots.proofs.Writing.{next_len, on_err, published_view, same_view, same_writing, shown_stamped, shown_writing, staged_shown, staged_stamped, staged_view, stamped_version, table_after}
use Rattle.bsi_snapshots.proofs.publisher.Publisher.publish.Goals as goal

-- the rows of the buffer may be pending, and what is shown stays
pub invariant_of-self : goal.invariant_of-self
invariant_of-self g c =
    let p = c.self.inside in
    let o = c.flush.new.copies in
    let pending = drop p.copies.behind p.copies.log.items in
    let more = drop o.behind o.log.items in
    let same = ap (λ d. d.shown.value) c.flush.ensures.desk in (
      staged_shown g.B.SystemTag.book g.B.SystemTag.about p.copies.desk.shown.value pending p.buffer.rows p.history p.free c.self.invariant.0
          o.desk.shown.value more c.flush.new.self.rows same c.flush.ensures.staged,
      c.flush.ensures.kind,
      subst (λ (e : Version). LastStampIsPrefix g.B.SystemTag.book e more p.stamped) (sym same)
          (staged_stamped g.B.SystemTag.book p.copies.desk.shown.value pending p.stamped c.self.invariant.2 more p.buffer.rows c.flush.new.self.rows c.flush.ensures.staged),
    )

pub stamp_all-requires-clause-begins : goal.stamp_all-requires-clause-begins
stamp_all-requires-clause-begins g c =
    let p = c.self.inside in
    let o = c.flush.new.copies in
    let is = staged_shown g.B.SystemTag.book g.B.SystemTag.about p.copies.desk.shown.value (drop p.copies.behind p.copies.log.items) p.buffer.rows p.history p.free c.self.invariant.0
    o.desk.shown.value (drop o.behind o.log.items) c.flush.new.self.rows (ap (λ d. d.shown.value) c.flush.ensures.desk) c.flush.ensures.staged in
    is.begins

pub stamp_all-requires-clause-len : goal.stamp_all-requires-clause-len
stamp_all-requires-clause-len g c =
    let p = c.self.inside in
    let o = c.flush.new.copies in
    let same = ap (λ d. d.shown.value) c.flush.ensures.desk in
    let is = staged_shown g.B.SystemTag.book g.B.SystemTag.about p.copies.desk.shown.value (drop p.copies.behind p.copies.log.items) p.buffer.rows p.history p.free c.self.invariant.0
    o.desk.shown.value (drop o.behind o.log.items) c.flush.new.self.rows same c.flush.ensures.staged in
    let limit = c.limit.ensures.limit ∙ ap (λ t. t.limit) (c.index.ensures ∙ ap (λ e. e.table) (c.published.ensures ∙ sym same)) in
    next_len g.B.SystemTag.book g.B.SystemTag.about o.desk.shown.value (drop o.behind o.log.items) c.flush.new.self.rows p.history p.free is c.limit.result limit c.in_ok-flush.ensures.ok

pub stamp_all-requires-clause-stamped : goal.stamp_all-requires-clause-stamped
stamp_all-requires-clause-stamped g c =
    let p = c.self.inside in
    let o = c.flush.new.copies in
    let more = drop o.behind o.log.items in
    subst (λ (e : Version). LastStampIsPrefix g.B.SystemTag.book e more p.stamped) (ap (λ d. d.shown.value) (sym c.flush.ensures.desk))
    (staged_stamped g.B.SystemTag.book p.copies.desk.shown.value (drop p.copies.behind p.copies.log.items) p.stamped c.self.invariant.2 more p.buffer.rows c.flush.new.self.rows c.flush.ensures.staged)

pub invariant_of-self-in_err-stamp_all : goal.invariant_of-self-in_err-stamp_all
invariant_of-self-in_err-stamp_all g c =
    let p = c.self.inside in
    let o = c.flush.new.copies in
    let is = staged_shown g.B.SystemTag.book g.B.SystemTag.about p.copies.desk.shown.value (drop p.copies.behind p.copies.log.items) p.buffer.rows p.history p.free c.self.invariant.0
    o.desk.shown.value (drop o.behind o.log.items) c.flush.new.self.rows (ap (λ d. d.shown.value) c.flush.ensures.desk) c.flush.ensures.staged in
    let more = drop c.stamp_all.new.copies.behind c.stamp_all.new.copies.log.items in
    let same = ap (λ d. d.shown.value) (sym c.stamp_all.ensures.desk) in (
      subst (λ (e : Version). IsPublisher g.B.SystemTag.book g.B.SystemTag.about e more c.flush.new.self.rows c.stamp_all.new.history p.free) same
          (same_writing g.B.SystemTag.book g.B.SystemTag.about o.desk.shown.value (drop o.behind o.log.items) c.flush.new.self.rows p.history p.free is
          c.stamp_all.new.history more c.stamp_all.ensures.history c.stamp_all.ensures.rows),
      subst (λ (e : Version). IsBufferOf e.table c.flush.new.self) same c.flush.ensures.kind,
      subst (λ (e : Version). LastStampIsPrefix g.B.SystemTag.book e more c.stamp_all.new.stamped) same c.stamp_all.ensures.stamped,
    )

pub returns-in_err-stamp_all-clause-err : goal.returns-in_err-stamp_all-clause-err
returns-in_err-stamp_all-clause-err g c =
    let p = c.self.inside in
    let o = c.flush.new.copies in
    let pending = drop o.behind o.log.items in
    let left = c.flush.new.self.rows in
    let more = drop c.stamp_all.new.copies.behind c.stamp_all.new.copies.log.items in
    on_err c.from_residual-in_err-stamp_all.result
    (same_view o.desk.shown.value pending left c.stamp_all.new.copies.desk.shown.value more (ap (λ d. d.shown.value) c.stamp_all.ensures.desk) c.stamp_all.ensures.rows
    ∙ staged_view p.copies.desk.shown.value (drop p.copies.behind p.copies.log.items) p.buffer.rows o.desk.shown.value pending left (ap (λ d. d.shown.value) c.flush.ensures.desk) c.flush.ensures.staged
    ∙ c.self.view_is)

-- all rows that are to be shown are stamped
pub exchange-requires : goal.exchange-requires
exchange-requires g c =
    let p = c.self.inside in
    let o = c.flush.new.copies in
    let same = ap (λ d. d.shown.value) c.flush.ensures.desk in
    let is = staged_shown g.B.SystemTag.book g.B.SystemTag.about p.copies.desk.shown.value (drop p.copies.behind p.copies.log.items) p.buffer.rows p.history p.free c.self.invariant.0
    o.desk.shown.value (drop o.behind o.log.items) c.flush.new.self.rows same c.flush.ensures.staged in
    let limit = c.limit.ensures.limit ∙ ap (λ t. t.limit) (c.index.ensures ∙ ap (λ e. e.table) (c.published.ensures ∙ sym same)) in
    let shown = o.desk.shown.value in
    let pending = drop o.behind o.log.items in
    let left = c.flush.new.self.rows in
    let stamps = drop c.stamp_all.new.copies.behind c.stamp_all.new.copies.log.items in
    let version_is = stamped_version g.B.SystemTag.book shown stamps c.stamp_all.new.stamped c.stamp_all.ensures.stamped g.B.SystemTag.about is.version_is
    (c.in_ok-stamp_all.ensures.ok ∙ next_len g.B.SystemTag.book g.B.SystemTag.about o.desk.shown.value (drop o.behind o.log.items) c.flush.new.self.rows p.history p.free is c.limit.result limit c.in_ok-flush.ensures.ok ∙ ap (λ (xs : RowList). length (shown.table.rows ++ xs)) (sym c.stamp_all.ensures.rows)) in
    subst (λ e. IsVersionOf g.B.SystemTag.book g.B.SystemTag.about (fold after e stamps)) (ap (λ d. d.shown.value) (sym c.stamp_all.ensures.desk)) version_is

-- the copy stays, and the stamp that is pending is no row
pub invariant_of-self-in_err-exchange : goal.invariant_of-self-in_err-exchange
invariant_of-self-in_err-exchange g c =
    let p = c.self.inside in
    let o = c.flush.new.copies in
    let same = ap (λ d. d.shown.value) c.flush.ensures.desk in
    let is = staged_shown g.B.SystemTag.book g.B.SystemTag.about p.copies.desk.shown.value (drop p.copies.behind p.copies.log.items) p.buffer.rows p.history p.free c.self.invariant.0
    o.desk.shown.value (drop o.behind o.log.items) c.flush.new.self.rows same c.flush.ensures.staged in
    let shown = o.desk.shown.value in
    let pending = drop o.behind o.log.items in
    let left = c.flush.new.self.rows in
    let stamps = drop c.stamp_all.new.copies.behind c.stamp_all.new.copies.log.items in
    let more = drop c.exchange.new.copies.behind c.exchange.new.copies.log.items in
    let rows = ap pending_rows c.in_err-exchange.ensures.pending ∙ c.stamp_all.ensures.rows in
    let still = c.in_err-exchange.ensures.unchanged ∙ ap (λ d. d.shown.value) c.stamp_all.ensures.desk in (
      subst (λ (e : Version). IsPublisher g.B.SystemTag.book g.B.SystemTag.about e more left c.stamp_all.new.history p.free) (sym still)
          (same_writing g.B.SystemTag.book g.B.SystemTag.about shown pending left p.history p.free is c.stamp_all.new.history more c.stamp_all.ensures.history rows),
      subst (λ (e : Version). IsBufferOf e.table c.flush.new.self) (sym still) c.flush.ensures.kind,
      subst (λ (e : Version). LastStampIsPrefix g.B.SystemTag.book e more c.stamp_all.new.stamped) (sym still)
          (subst (λ (ops : List Operation). LastStampIsPrefix g.B.SystemTag.book shown ops c.stamp_all.new.stamped) (sym c.in_err-exchange.ensures.pending) c.stamp_all.ensures.stamped),
    )

pub returns-in_err-exchange-clause-err : goal.returns-in_err-exchange-clause-err
returns-in_err-exchange-clause-err g c =
    let p = c.self.inside in
    let o = c.flush.new.copies in
    let same = ap (λ d. d.shown.value) c.flush.ensures.desk in
    let shown = o.desk.shown.value in
    let pending = drop o.behind o.log.items in
    let left = c.flush.new.self.rows in
    let stamps = drop c.stamp_all.new.copies.behind c.stamp_all.new.copies.log.items in
    let more = drop c.exchange.new.copies.behind c.exchange.new.copies.log.items in
    let rows = ap pending_rows c.in_err-exchange.ensures.pending ∙ c.stamp_all.ensures.rows in
    let still = c.in_err-exchange.ensures.unchanged ∙ ap (λ d. d.shown.value) c.stamp_all.ensures.desk in
    on_err c.from_residual-in_err-exchange.result
    (same_view shown pending left c.exchange.new.copies.desk.shown.value more still rows
    ∙ staged_view p.copies.desk.shown.value (drop p.copies.behind p.copies.log.items) p.buffer.rows shown pending left same c.flush.ensures.staged
    ∙ c.self.view_is)

-- the copy that is shown has all rows
pub invariant_of-self-2 : goal.invariant_of-self-2
invariant_of-self-2 g c =
    let p = c.self.inside in
    let o = c.flush.new.copies in
    let same = ap (λ d. d.shown.value) c.flush.ensures.desk in
    let is = staged_shown g.B.SystemTag.book g.B.SystemTag.about p.copies.desk.shown.value (drop p.copies.behind p.copies.log.items) p.buffer.rows p.history p.free c.self.invariant.0
    o.desk.shown.value (drop o.behind o.log.items) c.flush.new.self.rows same c.flush.ensures.staged in
    let limit = c.limit.ensures.limit ∙ ap (λ t. t.limit) (c.index.ensures ∙ ap (λ e. e.table) (c.published.ensures ∙ sym same)) in
    let shown = o.desk.shown.value in
    let pending = drop o.behind o.log.items in
    let left = c.flush.new.self.rows in
    let stamps = drop c.stamp_all.new.copies.behind c.stamp_all.new.copies.log.items in
    let version_is = stamped_version g.B.SystemTag.book shown stamps c.stamp_all.new.stamped c.stamp_all.ensures.stamped g.B.SystemTag.about is.version_is
    (c.in_ok-stamp_all.ensures.ok ∙ next_len g.B.SystemTag.book g.B.SystemTag.about o.desk.shown.value (drop o.behind o.log.items) c.flush.new.self.rows p.history p.free is c.limit.result limit c.in_ok-flush.ensures.ok ∙ ap (λ (xs : RowList). length (shown.table.rows ++ xs)) (sym c.stamp_all.ensures.rows)) in
    let next = c.exchange.new.copies.desk.shown.value in
    let none = drop c.exchange.new.copies.behind c.exchange.new.copies.log.items in
    let now : next ≡ fold after shown stamps = c.in_ok-exchange.ensures.shown ∙ ap (λ d. fold after d.shown.value stamps) c.stamp_all.ensures.desk in (
      shown_writing g.B.SystemTag.book g.B.SystemTag.about shown pending left p.history p.free is c.stamp_all.new.history stamps next none c.stamp_all.ensures.history c.stamp_all.ensures.rows version_is now
          c.in_ok-exchange.ensures.none,
      c.flush.ensures.kind ∙ sym (ap (λ e. emptied e.table) now ∙ ap emptied (table_after shown stamps)),
      shown_stamped g.B.SystemTag.book shown stamps c.stamp_all.new.stamped c.stamp_all.ensures.stamped next none now c.in_ok-exchange.ensures.none,
    )

pub returns-clause-len : goal.returns-clause-len
returns-clause-len g c =
    let p = c.self.inside in
    let o = c.flush.new.copies in
    let same = ap (λ d. d.shown.value) c.flush.ensures.desk in
    let is = staged_shown g.B.SystemTag.book g.B.SystemTag.about p.copies.desk.shown.value (drop p.copies.behind p.copies.log.items) p.buffer.rows p.history p.free c.self.invariant.0
    o.desk.shown.value (drop o.behind o.log.items) c.flush.new.self.rows same c.flush.ensures.staged in
    let limit = c.limit.ensures.limit ∙ ap (λ t. t.limit) (c.index.ensures ∙ ap (λ e. e.table) (c.published.ensures ∙ sym same)) in
    let shown = o.desk.shown.value in
    let pending = drop o.behind o.log.items in
    let left = c.flush.new.self.rows in
    let stamps = drop c.stamp_all.new.copies.behind c.stamp_all.new.copies.log.items in
    let next = c.exchange.new.copies.desk.shown.value in
    let none = drop c.exchange.new.copies.behind c.exchange.new.copies.log.items in
    let now : next ≡ fold after shown stamps = c.in_ok-exchange.ensures.shown ∙ ap (λ d. fold after d.shown.value stamps) c.stamp_all.ensures.desk in
    let rows = ap (λ e. length e.table.rows) now ∙ ap (λ (t : Table). length t.rows) (table_after shown stamps) in
    next_len g.B.SystemTag.book g.B.SystemTag.about o.desk.shown.value (drop o.behind o.log.items) c.flush.new.self.rows p.history p.free is c.limit.result limit c.in_ok-flush.ensures.ok
    ∙ ap (λ (xs : RowList). length (shown.table.rows ++ xs)) (sym c.stamp_all.ensures.rows) ∙ sym rows

pub returns-clause-ok : goal.returns-clause-ok
returns-clause-ok g c =
    let p = c.self.inside in
    let o = c.flush.new.copies in
    let same = ap (λ d. d.shown.value) c.flush.ensures.desk in
    let shown = o.desk.shown.value in
    let pending = drop o.behind o.log.items in
    let left = c.flush.new.self.rows in
    let stamps = drop c.stamp_all.new.copies.behind c.stamp_all.new.copies.log.items in
    let next = c.exchange.new.copies.desk.shown.value in
    let none = drop c.exchange.new.copies.behind c.exchange.new.copies.log.items in
    let now : next ≡ fold after shown stamps = c.in_ok-exchange.ensures.shown ∙ ap (λ d. fold after d.shown.value stamps) c.stamp_all.ensures.desk in
    published_view shown pending stamps left next none now c.stamp_all.ensures.rows c.in_ok-exchange.ensures.none c.in_ok-flush.ensures.ok
    ∙ ap with_all_published
    (staged_view p.copies.desk.shown.value (drop p.copies.behind p.copies.log.items) p.buffer.rows shown pending left same c.flush.ensures.staged ∙ c.self.view_is)
