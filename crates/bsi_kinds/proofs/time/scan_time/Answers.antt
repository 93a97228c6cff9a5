use Rattle.std.proofs.Common.{◌-◌, length, take, drop, arith, ap, option_map, FitsSigned, ◌∙◌}
use Rattle.std.proofs.lemmas.Int.{ints, to_z-of_z}
use Rattle.std.specs.Int.{w64}
use Rattle.bsi_kinds.specs.Clocks.{scanned_time}
use Rattle.bsi_kinds.specs.Times.{moment_on, unit_places}
use Rattle.bsi_kinds.proofs.Clocks.{time_found}
use Rattle.bsi_kinds.proofs.Scaling.{ten_some}
use Rattle.bsi_kinds.proofs.time.scan_time.Goals as goal

pub returns-in-empty-2-clause-few : goal.returns-in-empty-2-clause-few
returns-in-empty-2-clause-few c =
    let day = c.in_ok-day.ensures.within in
    record {
      seconds = (omega (arith, ints, c.whole_seconds.ensures.seconds, day), omega (arith, ints, c.whole_seconds.ensures.seconds, day));
      subsecond = omega (arith, c.whole_seconds.ensures.subsecond, ten_some (unit_places c.args.form.unit));
    }

pub returns-in-len1-up-clause-value : goal.returns-in-len1-up-clause-value
returns-in-len1-up-clause-value c =
    let behind = c.split_before_clock.result.1.now in
    let day = c.in_ok-day.ensures.within in
    let fits : FitsSigned w64 c.in_ok-day.day = omega (arith, ints, day) in
    time_found (unit_places c.args.form.unit) c.args.form c.args.text.now _ _ c.in_ok-day.day c.scan_on_day.result c.in-len1-up.len_at_least
    c.split_before_clock.ensures.before c.split_before_clock.ensures.behind c.in_ok-day.ensures.value
    (c.scan_on_day.ensures.value
    ∙ ap (λ d. option_map (scanned_time (unit_places c.args.form.unit)) (moment_on c.args.form.utc d (take (length behind - 1) (drop 1 behind)))) (to_z-of_z w64 c.in_ok-day.day fits))
