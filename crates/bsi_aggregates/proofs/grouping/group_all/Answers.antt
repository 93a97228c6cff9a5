use Rattle.std.proofs.Common.{[], sym, subst, ◌∙◌, arith, ◌<◌}
use Rattle.std.specs.Prelude.{count_by}
use Rattle.bsi_aggregates.specs.Groups.{selected_keys, AreGroups, AreMore}
use Rattle.bsi_aggregates.proofs.AllRows.{all_rows, no_rows, one_more_than_none}
use Rattle.bsi_aggregates.proofs.grouping.group_all.Goals as goal

pub returns-then-count-eq0-clause-groups : goal.returns-then-count-eq0-clause-groups
returns-then-count-eq0-clause-groups c =
    subst (AreGroups c.args.total c.args.selection.now.bits [] c.args.index.now.rows) (sym c.new.ensures.groups)
    (no_rows c.args.total c.args.selection.now.bits c.args.index.now.rows c.requires.same (sym c.count.ensures ∙ c.if-count-eq0.true))

pub returns-then-most-eq0-clause-refused : goal.returns-then-most-eq0-clause-refused
returns-then-most-eq0-clause-refused c =
    let some : 0 < count_by (λ b. b) c.args.selection.now.bits = omega (arith, c.count.ensures, c.if-count-eq0.false) in
    subst (λ most. AreMore most (selected_keys c.args.selection.now.bits [] c.args.index.now.rows)) (sym c.if-most-eq0.true)
    (one_more_than_none c.args.total c.args.selection.now.bits c.args.index.now.rows c.requires.same some)

pub returns-clause-groups : goal.returns-clause-groups
returns-clause-groups c =
    let some : 0 < count_by (λ b. b) c.args.selection.now.bits = omega (arith, c.count.ensures, c.if-count-eq0.false) in
    subst (AreGroups c.args.total c.args.selection.now.bits [] c.args.index.now.rows) (sym c.in_ok-of_all.ensures.groups)
    (all_rows c.args.total c.args.selection.now.bits c.args.index.now.rows c.requires.same some c.in_ok-total.field-0 c.in_ok-total.ensures.answer)
