use Rattle.std.proofs.Common.{arith, ap, FitsSigned, ◌∙◌}
use Rattle.std.proofs.lemmas.Int.{ints, to_z-of_z}
use Rattle.std.specs.Int.{w128}
use Rattle.bsi_kinds.specs.Comparisons.{brought_down}
use Rattle.bsi_kinds.specs.Times.{moment_of, unit_places}
use Rattle.bsi_kinds.proofs.Moments.{few_places, time_compares}
use Rattle.bsi_kinds.proofs.time.compare_time.Goals as goal

pub returns-clause-some : goal.returns-clause-some
returns-clause-some c =
    let small = c.first_from-from.ensures.few in
    let fits : FitsSigned w128 c.first_from-from.result = omega (arith, ints, small) in
    time_compares (unit_places c.args.form.unit) (few_places c.args.form.unit) c.args.op (moment_of c.args.form c.args.text.now) c.in_ok-time.time c.bring_down.result
    c.in_ok-time.ensures.value c.in_ok-time.ensures.few.subsecond
    (c.bring_down.ensures ∙ ap (brought_down c.args.op c.in_ok-time.time.subsecond.exact) (to_z-of_z w128 c.first_from-from.result fits ∙ c.first_from-from.ensures.value))
