use Rattle.std.proofs.Common.{arith}
use Rattle.std.proofs.lemmas.Int.{ints}
use Rattle.bsi_kinds.proofs.Clocks.{seconds_found}
use Rattle.bsi_kinds.proofs.Scaling.{ten_some}
use Rattle.bsi_kinds.proofs.clock.scan_seconds.Goals as goal

pub returns-in-empty-clause-few : goal.returns-in-empty-clause-few
returns-in-empty-clause-few c =
    record {
      seconds = (omega (arith, ints, c.whole_seconds.ensures.seconds, c.from-minutes.ensures, c.requires), omega (arith, ints, c.whole_seconds.ensures.seconds, c.from-minutes.ensures, c.requires));
      subsecond = omega (arith, c.whole_seconds.ensures.subsecond, ten_some c.args.places);
    }

pub returns-in_ok-subsecond-in-58-clause-value : goal.returns-in_ok-subsecond-in-58-clause-value
returns-in_ok-subsecond-in-58-clause-value c =
    seconds_found c.args.places c.args.minutes c.args.text.now _ _ c.min.result c.in_ok-read_two_digits-in-58.field-0 c.in_ok-subsecond-in-58.subsecond _
    c.in-58.len_at_least (omega arith) c.min.ensures c.split_at.ensures.front c.split_at.ensures.back c.in_ok-read_two_digits-in-58.ensures.value c.in_ok-subsecond-in-58.ensures.value
    (omega (arith, ints, c.from-minutes.ensures, c.from.ensures, c.requires, c.in_ok-read_two_digits-in-58.ensures.small))
