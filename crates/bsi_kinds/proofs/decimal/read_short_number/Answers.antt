use Rattle.std.proofs.Common.{arith}
use Rattle.bsi_kinds.proofs.Days.{number_fits, number_small, part_is}
use Rattle.bsi_kinds.proofs.decimal.read_short_number.Goals as goal

pub overflow_cast-result : goal.overflow_cast-result
overflow_cast-result c = omega (arith, number_fits c.args.least c.args.most c.in_ok-number.number c.args.text.now c.if-text-least.false c.if-text-most.false c.requires c.in_ok-number.ensures)

pub returns-clause-value : goal.returns-clause-value
returns-clause-value c = part_is c.args.least c.args.most c.in_ok-number.number c.args.text.now c.if-text-least.false c.if-text-most.false c.requires c.in_ok-number.ensures

pub returns-clause-small : goal.returns-clause-small
returns-clause-small c = number_small c.args.least c.args.most c.in_ok-number.number c.args.text.now c.if-text-least.false c.if-text-most.false c.requires c.in_ok-number.ensures
