use Rattle.std.proofs.Common.{option_map, ap, ◌∙◌}
use Rattle.bsi_kinds.specs.Comparisons.{comparison}
use Rattle.bsi_kinds.proofs.Kinded.{by_boolean, by_date, by_decimal, by_rounded, by_time}
use Rattle.bsi_kinds.proofs.kind.Kind.compare.Goals as goal

pub returns-in-Decimal-clause-some : goal.returns-in-Decimal-clause-some
returns-in-Decimal-clause-some c =
    by_decimal c.args.op _ c.args.self.now c.args.point c.args.text.now c.compare_decimal.result c.in-Decimal.is c.compare_decimal.ensures.some

pub returns-in-Rounded-clause-some : goal.returns-in-Rounded-clause-some
returns-in-Rounded-clause-some c =
    by_rounded c.args.op _ c.args.self.now c.args.point c.args.text.now c.compare_decimal-in-Rounded.result c.in-Rounded.is c.compare_decimal-in-Rounded.ensures.some

pub returns-in-Date-clause-some : goal.returns-in-Date-clause-some
returns-in-Date-clause-some c =
    by_date c.args.op c.in-Date.form c.args.self.now c.args.point c.args.text.now c.compare_number.result c.in-Date.is
    (c.compare_number.ensures ∙ ap (option_map (λ n. comparison c.args.op n)) c.read_date.ensures.value)

pub returns-in-Boolean-clause-some : goal.returns-in-Boolean-clause-some
returns-in-Boolean-clause-some c =
    by_boolean c.args.op c.in-Boolean.form c.args.self.now c.args.point c.args.text.now c.compare_number-in-Boolean.result c.in-Boolean.is
    (c.compare_number-in-Boolean.ensures ∙ ap (option_map (λ n. comparison c.args.op n)) c.read_boolean.ensures)

pub returns-in-Time-clause-some : goal.returns-in-Time-clause-some
returns-in-Time-clause-some c =
    by_time c.args.op c.in-Time.form c.args.self.now c.args.point c.args.text.now c.compare_time.result c.in-Time.is c.compare_time.ensures.some
