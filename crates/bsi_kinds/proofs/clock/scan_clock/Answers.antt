use Rattle.bsi_kinds.proofs.Clocks.{clock_found}
use Rattle.bsi_kinds.proofs.clock.scan_clock.Goals as goal

pub returns-clause-value : goal.returns-clause-value
returns-clause-value c =
    clock_found c.args.places c.args.text.now _ _ c.min.result c.in_ok-read_minutes.field-0 c.scan_seconds.result c.min.ensures
    c.split_at.ensures.front c.split_at.ensures.back c.in_ok-read_minutes.ensures.value c.scan_seconds.ensures.value
