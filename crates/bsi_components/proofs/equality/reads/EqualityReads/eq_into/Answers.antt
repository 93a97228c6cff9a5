use Rattle.std.proofs.Common.{ℕ, map, not, ap, sym, ◌∙◌}
use Rattle.std.specs.Prelude.{◌==◌}
use Rattle.bsi_components.proofs.EqualityReads.{zero_eq}
use Rattle.bsi_components.proofs.equality.reads.EqualityReads.eq_into.Goals as goal

pub returns-else-is_stored-clause-bits : goal.returns-else-is_stored-clause-bits
returns-else-is_stored-clause-bits c =
    let ds = c.args.component.now.digits in
    let none = c.is_stored.ensures.none c.if-is_stored.false in
    c.flip.ensures.bits ∙ ap (map not) (c.copy_from-else-is_stored.ensures.bits ∙ c.bitmap-else-is_stored.ensures)
    ∙ zero_eq ds (c.is_stored.ensures.few c.if-is_stored.false)
    ∙ ap (λ d. map {A = ℕ} (λ v. v == d) ds) (sym none.1)
