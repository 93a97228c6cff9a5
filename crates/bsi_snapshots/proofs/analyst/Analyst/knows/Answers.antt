use Rattle.std.proofs.Common.{◌≡◌, ◌<◌, ℕ, Bool, true, false, length-append, length, ap, refl, sym, ◌∙◌, arith}
use Rattle.std.specs.Prelude.{IsFalse, IsTrue}
use mathlib.Core.List.{IsPrefix}
use Rattle.bsi_snapshots.specs.History.{RowList}
use Rattle.bsi_snapshots.proofs.Growing.{prefix_whole}
use Rattle.bsi_snapshots.proofs.analyst.Analyst.knows.Goals as goal

-- two lists that begin with each other are one list
same_list : (mine theirs : RowList) → IsPrefix theirs mine → IsPrefix mine theirs → mine ≡ theirs
same_list mine theirs p q = prefix_whole mine theirs q (omega (arith, length-append theirs p.0, ap length p.1))

-- of two lists of one length none is shorter
not_shorter : (b : Bool) (n m : ℕ) → (IsFalse b → n < m) → n ≡ m → IsTrue b
not_shorter true n m less same = refl
not_shorter false n m less same = absurd (omega (arith, less refl, same))

pub returns-then-follows : goal.returns-then-follows
returns-then-follows g c =
    let mine = c.self.inside.token.list in
    let theirs = c.token-told.result.now.list in (
      λ same. sym c.self.view_is ∙ (same_list mine theirs (c.follows.ensures.later c.if-follows.true) (c.follows-then-follows.ensures.later same) ∙ c.token-told.ensures.list),
      λ same. not_shorter c.follows-then-follows.result (length theirs) (length mine) c.follows-then-follows.ensures.shorter (ap length (c.token-told.ensures.list ∙ (sym same ∙ sym c.self.view_is))),
    )

pub returns-else-follows : goal.returns-else-follows
returns-else-follows g c = (
  λ is. cc is,
  λ same. not_shorter c.follows.result (length c.self.inside.token.list) (length c.token-told.result.now.list) c.follows.ensures.shorter (ap length (c.self.view_is ∙ (same ∙ sym c.token-told.ensures.list))),
)
