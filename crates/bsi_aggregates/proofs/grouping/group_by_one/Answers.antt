use Rattle.std.proofs.Common.{[], ◌∷◌, sym, subst}
use Rattle.bsi_aggregates.specs.Groups.{AreGroups, IsRefusedOver}
use Rattle.bsi_aggregates.proofs.GroupsJoined.{passed_on}
use Rattle.bsi_aggregates.proofs.OneColumn.{are_alone, refused_alone}
use Rattle.bsi_aggregates.proofs.grouping.group_by_one.Goals as goal

pub returns-in_err-made-clause-refused : goal.returns-in_err-made-clause-refused
returns-in_err-made-clause-refused c =
    let rows = c.args.index.now.rows in
    passed_on c.from_residual.result c.in_err-made.field-0.0 (IsRefusedOver c.args.selection.bits (c.args.by ∷ []) rows c.args.most) c.from_residual.ensures
    (refused_alone c.args.selection.bits c.args.by rows c.args.most c.in_err-made.field-0.0 c.in_err-made.ensures.refused)

pub returns-clause-groups : goal.returns-clause-groups
returns-clause-groups c =
    let rows = c.args.index.now.rows in
    subst (AreGroups c.args.total c.args.selection.bits (c.args.by ∷ []) rows) (sym c.in_ok-into_groups.ensures.groups)
    (are_alone c.args.selection.bits c.args.by rows c.args.total c.in_ok-made.made.items c.in_ok-made.ensures.groups)
