use Rattle.std.proofs.Common.{[], ◌∷◌, refl, arith}
use Rattle.bsi_input.proofs.Joining.{taken_both}
use Rattle.bsi_files.proofs.Feeds.{next_taken}
use Rattle.bsi_files.proofs.Filled.{one_fails, one_next}
use Rattle.bsi_files.proofs.feeding.feed_one.Goals as goal

pub returns-then-send : goal.returns-then-send
returns-then-send g c =
    let e = rw c.in-Ok-Some.field-0-is at c.in-Ok-Some.ensures in (
      c.in-Ok-Some.row ∷ [],
      refl,
      omega arith,
      c.send.ensures.sent c.if-send.true,
      one_next g.F.RowFormat.format g.I.Read.remaining c.args.source.now c.next_row.new.self c.in-Ok-Some.row e.failed e.ended e.given e.goes_on e.same e.first e.few,
    )

-- the row is lost
pub returns-else-send : goal.returns-else-send
returns-else-send g c =
    let e = rw c.in-Ok-Some.field-0-is at c.in-Ok-Some.ensures in (
      c.send.ensures.unchanged c.if-send.false,
      next_taken g.F.RowFormat.format g.I.Read.remaining (taken_both g.I.Read.remaining) c.args.source.now c.next_row.new.self (c.in-Ok-Some.row ∷ [])
          (one_next g.F.RowFormat.format g.I.Read.remaining c.args.source.now c.next_row.new.self c.in-Ok-Some.row e.failed e.ended e.given e.goes_on e.same e.first e.few),
    )

pub returns-in-Err : goal.returns-in-Err
returns-in-Err g c =
    let e = c.in-Err.ensures in
    let fails = one_fails g.F.RowFormat.format g.I.Read.remaining c.args.source.now c.next_row.new.self c.in-Err.fault e.failed e.ended e.stopped in
    (refl {a = c.args.feeder.now}, fails.0, fails.1)
