use Rattle.std.proofs.Common.{◌≡◌, ◌+ℤ◌, ◌*ℤ◌, ◌^◌, pos, unsigned_abs, to_z, of_z, FitsSigned, ap, ap₂, arith, rules, ◌∙◌}
use Rattle.std.proofs.lemmas.Int.{ints, to_z-of_z}
use Rattle.std.specs.Int.{int_div_euclid, int_rem_euclid, w64}
use Rattle.jiff_core.specs.Date.{epoch_day}
use Rattle.bsi_kinds.specs.Times.{unit_places}
use Rattle.bsi_kinds.proofs.Days.{at_ok}
use Rattle.bsi_kinds.proofs.Scaling.{ten_some}
use Rattle.bsi_kinds.proofs.TimeTexts.{number_split}
use Rattle.bsi_kinds.proofs.time_text.split_number.Goals as goal

pub returns-clause-number : goal.returns-clause-number
returns-clause-number c =
    let some = c.per_second-second.ensures.some in
    let few = c.per_second-second.ensures.few in
    let second_fits : FitsSigned w64 c.per_second-second.result = omega (arith, ints, some, few) in
    let seconds_fits : FitsSigned w64 c.div_euclid-seconds.result = search rules in
    let day_fits : FitsSigned w64 c.div_euclid.result = search rules in
    let clock_fits : FitsSigned w64 c.rem_euclid.result = search rules in
    let part_fits : FitsSigned w64 c.rem_euclid-2.result = search rules in
    let number = to_z-of_z w64 c.args.number c.ranges.number in
    let second = to_z-of_z w64 c.per_second-second.result second_fits ∙ c.per_second-second.ensures.units in
    let seconds = to_z-of_z w64 c.div_euclid-seconds.result seconds_fits in
    let date : epoch_day c.unwrap-date.result ≡ c.div_euclid.result =
    at_ok c.from_unix_epoch_day.result _ c.unwrap-date.result c.from_unix_epoch_day.ensures.value c.unwrap-date.ensures ∙ to_z-of_z w64 c.div_euclid.result day_fits in
    let clock_low = c.rem_euclid.ensures.lower_bound in
    let part_low = c.rem_euclid-2.ensures.lower_bound in
    let clock : pos (unsigned_abs (to_z w64 (of_z w64 c.rem_euclid.result))) ≡ c.rem_euclid.result = omega (arith, ints) in
    let subsecond : pos (unsigned_abs (to_z w64 (of_z w64 c.rem_euclid-2.result))) ≡ c.rem_euclid-2.result = omega (arith, ints) in
    ap₂ (λ e s. (e *ℤ pos 86400 +ℤ pos s) *ℤ pos (10 ^ unit_places c.args.unit) +ℤ pos (unsigned_abs (to_z w64 (of_z w64 c.rem_euclid-2.result)))) date c.from_second-time.ensures.seconds
    ∙ number_split (10 ^ unit_places c.args.unit) (ten_some (unit_places c.args.unit)) c.args.number c.div_euclid-seconds.result c.div_euclid.result
    (unsigned_abs (to_z w64 (of_z w64 c.rem_euclid.result))) (unsigned_abs (to_z w64 (of_z w64 c.rem_euclid-2.result)))
    (c.div_euclid-seconds.ensures ∙ ap₂ int_div_euclid number second)
    (c.div_euclid.ensures ∙ ap (λ s. int_div_euclid s (pos 86400)) seconds)
    (clock ∙ c.rem_euclid.ensures.value ∙ ap (λ s. int_rem_euclid s (pos 86400)) seconds)
    (subsecond ∙ c.rem_euclid-2.ensures.value ∙ ap₂ int_rem_euclid number second)
