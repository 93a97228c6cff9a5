use Rattle.std.proofs.Common.{◌+◌, sym, arith}
use Rattle.bsi_components.specs.Equality.{is_among}
use Rattle.bsi_components.proofs.DigitCounts.{where_most}
use Rattle.bsi_components.proofs.EqualityReads.{among_start, among_next}
use Rattle.bsi_components.proofs.equality.counts.EqualityComponent.count_among.Goals as goal

pub digits-init : goal.digits-init
digits-init c = sym (among_start c.args.selection.now.bits c.args.self.now.digits c.args.from)

-- no more rows are counted than there are
pub overflow_add-rows : goal.overflow_add-rows
overflow_add-rows c =
    let selection = c.args.selection.now.bits in
    let next = among_next selection c.args.self.now.digits c.args.from c.digits.j (omega arith) in
    let most = where_most (is_among c.args.from (c.digits.j + 1)) selection c.args.self.now.digits in
    omega (arith, next, most, c.digits.invariant, c.count_eq-rows.ensures, c.len.ensures)

pub digits-preserved : goal.digits-preserved
digits-preserved c =
    let next = among_next c.args.selection.now.bits c.args.self.now.digits c.args.from c.digits.j (omega arith) in
    omega (arith, next, c.digits.invariant, c.count_eq-rows.ensures)
