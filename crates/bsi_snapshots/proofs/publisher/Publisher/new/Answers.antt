use Rattle.std.proofs.Common.{List, [], drop, ap, sym, subst, ◌∙◌, ◌≡◌}
use Rattle.bsi_table.specs.Index.{table_of}
use Rattle.bsi_snapshots.specs.Versions.{emptied, IsPublisher, LastStampIsPrefix}
use Rattle.bsi_snapshots.specs.History.{Version, VersionToken}
use Rattle.bsi_snapshots.specs.declared.operation.Operation.{Operation}
use Rattle.bsi_snapshots.proofs.Writing.{first_stamped, first_writing}
use Rattle.bsi_snapshots.proofs.publisher.Publisher.new.Goals as goal

-- nothing is shown, pending or staged
pub invariant_of-result : goal.invariant_of-result
invariant_of-result g c =
    let book = g.B.SystemTag.book in
    let about = g.B.SystemTag.about in
    let buffer = c.in_ok-buffer.buffer.rows in
    let copies = c.in_ok-copies.copies in
    let first : Version = record { table = table_of c.args.index; token = c.token.result } in
    let shown : copies.desk.shown.value ≡ first = c.in_ok-copies.ensures.0 ∙ c.new-first.ensures in
    let none : drop copies.behind copies.log.items ≡ [] = c.in_ok-copies.ensures.1 in
    let token : c.token.result ≡ record { book = book; list = [] } = c.token.ensures ∙ c.requires.history in
    let writing = first_writing book about (table_of c.args.index) c.token.result buffer c.limit-free.result token c.requires.index c.requires.empty
    (ap (λ b. b.rows) c.in_ok-buffer.ensures) c.limit-free.ensures.limit in (
      subst (λ (e : Version). IsPublisher book about e (drop copies.behind copies.log.items) buffer c.args.history c.limit-free.result) (sym shown)
          (subst (λ (ops : List Operation). IsPublisher book about first ops buffer c.args.history c.limit-free.result) (sym none)
          (subst (λ (h : VersionToken). IsPublisher book about first [] buffer h c.limit-free.result) c.token.ensures writing)),
      ap emptied c.in_ok-buffer.ensures ∙ sym (ap (λ e. emptied e.table) shown),
      subst (λ (e : Version). LastStampIsPrefix book e (drop copies.behind copies.log.items) 0) (sym shown)
          (subst (λ (ops : List Operation). LastStampIsPrefix book first ops 0) (sym none) (first_stamped book about (table_of c.args.index) c.token.result token)),
    )
