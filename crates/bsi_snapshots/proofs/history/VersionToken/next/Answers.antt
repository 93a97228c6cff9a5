use Rattle.std.proofs.Common.{sym, ◌∙◌, ap, subst}
use mathlib.Core.List.{IsPrefix}
use Rattle.bsi_snapshots.specs.History.{RowList}
use Rattle.bsi_snapshots.proofs.Growing.{adds_moves}
use Rattle.bsi_snapshots.proofs.history.VersionToken.next.Goals as goal

-- the list begins with the one that is token
pub compare_exchange-old_len-requires : goal.compare_exchange-old_len-requires
compare_exchange-old_len-requires g c =
    let r = c.self.inside in
    let asked = g.M.Plain.ask c.args.about.now in
    let h = c.requires.head in
    let book = ap (λ k. k.book) c.self.view_is in
    let offer = c.plain-offer.ensures in
    let pen = c.no_pen-pen.ensures in
    let list = ap (λ k. k.list) c.self.view_is in
    let begins = subst (λ (rows : RowList). IsPrefix rows asked) (sym list) c.requires.begins in
    let moves = adds_moves r.seen.log asked r.len c.args.len (sym c.self.invariant) begins c.requires.long in
    let same = ap (λ s. s.book) c.again-seen.ensures ∙ (book ∙ sym (ap (λ w. w.book) h)) in (
      ap (λ w. w.tracked) h,
      same,
      pen.0 ∙ same,
      offer.0,
      rw (ap (λ w. w.key) h, pen.1, offer.1, offer.3 ∙ c.requires.fresh, ap (λ s. s.log) c.again-seen.ensures) moves,
    )
