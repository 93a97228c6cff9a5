use Rattle.std.proofs.Common.{◌&&◌, ap, sym, ◌∙◌}
use Rattle.bsi_inference.proofs.Plain.{join_decimals}
use Rattle.bsi_inference.proofs.decimals.Decimals.join.Goals as goal

pub returns-then-self : goal.returns-then-self
returns-then-self c =
    join_decimals c.args.self c.args.other c.max-places.result c.bring_to.result c.bring_to-2.result c.join.result c.args.other.spelled c.max-places.ensures
    c.requires c.bring_to.ensures.preserved c.bring_to-2.ensures.preserved c.bring_to.ensures.brought c.bring_to-2.ensures.brought
    c.join.ensures.preserved c.join.ensures.joined c.join.ensures.ruled_out c.join.ensures.other_ruled_out c.join.ensures.seen (ap (λ b. b && c.args.other.spelled) (sym c.if-self.true))

pub returns-else-self : goal.returns-else-self
returns-else-self c =
    join_decimals c.args.self c.args.other c.max-places.result c.bring_to.result c.bring_to-2.result c.join.result c.args.self.spelled c.max-places.ensures
    c.requires c.bring_to.ensures.preserved c.bring_to-2.ensures.preserved c.bring_to.ensures.brought c.bring_to-2.ensures.brought
    c.join.ensures.preserved c.join.ensures.joined c.join.ensures.ruled_out c.join.ensures.other_ruled_out c.join.ensures.seen (c.if-self.false ∙ ap (λ b. b && c.args.other.spelled) (sym c.if-self.false))
