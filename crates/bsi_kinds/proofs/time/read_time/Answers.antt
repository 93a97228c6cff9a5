use Rattle.std.proofs.Common.{arith, ap, refl, subst, sym, FitsSigned, ℤ, pos, false, ◌∙◌}
use Rattle.std.proofs.lemmas.Bool.{both_ways}
use Rattle.std.proofs.lemmas.Int.{ints, to_z-of_z}
use Rattle.std.specs.Int.{int_div_euclid, w64}
use Rattle.jiff_core.specs.Calendar.{IsEpochDay}
use Rattle.bsi_kinds.specs.Times.{day_of, moment_of, unit_places}
use Rattle.bsi_kinds.proofs.Moments.{few_places, nothing_spelled, number_spelled, same_day, spelled_only}
use Rattle.bsi_kinds.proofs.time.read_time.Goals as goal
use Rattle.bsi_kinds.proofs.time.read_time.Goals.{else-time-via-then-time+else-has_date, else-time-via-else-time}

pub returns-then-has_date-clause-some : goal.returns-then-has_date-clause-some
returns-then-has_date-clause-some c =
    let few = c.count_units.ensures.few in
    let fits : FitsSigned w64 c.count_units.result = omega (arith, ints, few) in
    number_spelled (unit_places c.args.form.unit) (few_places c.args.form.unit) (moment_of c.args.form c.args.text.now) c.in_ok-time.time _ c.in_ok-time.ensures.value
    c.in_ok-time.ensures.few.subsecond c.if-time.true (to_z-of_z w64 c.count_units.result fits ∙ c.count_units.ensures.value)

-- its day is that of its whole seconds
pub returns-then-has_date-clause-within : goal.returns-then-has_date-clause-within
returns-then-has_date-clause-within c =
    let few = c.count_units.ensures.few in
    let fits : FitsSigned w64 c.count_units.result = omega (arith, ints, few) in
    let near = c.in_ok-time.ensures.few.seconds in
    let seconds_fit : FitsSigned w64 c.in_ok-time.time.seconds = omega (arith, ints, near) in
    let number = to_z-of_z w64 c.count_units.result fits ∙ c.count_units.ensures.value in
    let same = ap (day_of c.args.form.unit) number ∙ same_day c.args.form.unit c.in_ok-time.time.seconds c.in_ok-time.time.subsecond.units c.in_ok-time.ensures.few.subsecond in
    let seconds = to_z-of_z w64 c.in_ok-time.time.seconds seconds_fit in
    subst (λ (d : ℤ). IsEpochDay d) (sym (same ∙ ap (λ s. int_div_euclid s (pos 86400)) (sym seconds))) (c.if-has_date.ensures.day.0 refl)

-- a time between two units, or of a day that the calendar has not
pub returns-else-time-clause-none : goal.returns-else-time-clause-none
returns-else-time-clause-none c =
    λ n within spelled. elim c.else-time.branch [
      | else-time-via-then-time+else-has_date w ↦ (
          let near = c.in_ok-time.ensures.few.seconds in
          let seconds_fit : FitsSigned w64 c.in_ok-time.time.seconds = omega (arith, ints, near) in
          let number = spelled_only (unit_places c.args.form.unit) (few_places c.args.form.unit) (moment_of c.args.form c.args.text.now) c.in_ok-time.time n c.in_ok-time.ensures.value
          c.in_ok-time.ensures.few.subsecond w.if-time.true spelled in
          let same = ap (day_of c.args.form.unit) number ∙ same_day c.args.form.unit c.in_ok-time.time.seconds c.in_ok-time.time.subsecond.units c.in_ok-time.ensures.few.subsecond in
          let seconds = to_z-of_z w64 c.in_ok-time.time.seconds seconds_fit in
          both_ways false refl (w.if-has_date.ensures.day.1 (subst (λ (d : ℤ). IsEpochDay d) (same ∙ ap (λ s. int_div_euclid s (pos 86400)) (sym seconds)) within)))
      | else-time-via-else-time w ↦
          nothing_spelled (unit_places c.args.form.unit) (few_places c.args.form.unit) (moment_of c.args.form c.args.text.now) c.in_ok-time.time n c.in_ok-time.ensures.value
          w.if-time.false spelled
    ]
