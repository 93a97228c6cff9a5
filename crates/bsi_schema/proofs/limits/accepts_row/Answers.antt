use Rattle.std.proofs.Common.{◌≡◌, false, nat_eq, Option, ℤ, length, ap, ◌∙◌, arith, rules, tests}
use Rattle.std.specs.List.{list_all, zip}
use Rattle.std.proofs.lemmas.Iterator.{YieldsList-from_slice, YieldsList-from_zip}
use Rattle.std.proofs.lemmas.Iterator.Search.{all_from_yields_List}
use Rattle.bsi_schema.specs.Columns.{is_between}
use Rattle.bsi_schema.specs.declared.limits.Limits.{Limits}
use Rattle.bsi_schema.proofs.Fitting.{all_accepted, limits_long, misfit-length}
use Rattle.bsi_schema.proofs.limits.accepts_row.Goals as goal

pub returns-then-values-limits : goal.returns-then-values-limits
returns-then-values-limits c = λ columns are.
    let accepted : Limits × Option ℤ → _ = λ p. is_between p.0.least p.0.size p.1 in
    let limits = c.args.limits.now in
    let row = c.args.row.now in
    all_from_yields_List accepted c.all.new.self _ _ c.all.ensures.ran (YieldsList-from_zip (YieldsList-from_slice limits cc) (YieldsList-from_slice row cc)) (λ x b q k. search (rules, tests))
    ∙ ap (λ limits. list_all accepted (zip limits row)) are
    ∙ all_accepted columns row (omega (arith, ap length c.values-values.ensures, c.if-values-limits.true, limits_long columns limits are))

pub returns-else-values-limits : goal.returns-else-values-limits
returns-else-values-limits c = λ columns are.
    let limits = c.args.limits.now in
    let other : nat_eq (length c.values-values.result.now) (length limits) ≡ false = search rules in
    other ∙ misfit-length columns c.args.row.now (λ same. c.if-values-limits.false (omega (arith, same, ap length c.values-values.ensures, limits_long columns limits are)))
