use Rattle.std.proofs.Common.{◌≡◌, [], Bool, true, Option, Some, IfSome, ap, arith, sym, subst, ◌∙◌}
use Rattle.bsi_system.specs.Rings.{FeederState}
use Rattle.bsi_input.specs.declared.rows.SourceFault.{SourceFault}
use Rattle.bsi_input.specs.Sources.{layout_by}
use Rattle.bsi_input.proofs.Joining.{taken_both}
use Rattle.bsi_input.proofs.Taking.{taken_none}
use Rattle.bsi_files.specs.Feeding.{HasFailed}
use Rattle.bsi_files.proofs.Feeds.{failed_after, fed_first, none_taken, of_some, passed_none, read_on, sent_more, sent_none}
use Rattle.bsi_files.proofs.feeding.feed.Goals.{in-Stopped, in-Over, in-Failed}
use Rattle.bsi_files.proofs.feeding.feed.Goals as goal

pub batches-init : goal.batches-init
batches-init g c = record {
  sent = sent_none g.F.RowFormat.format g.I.Read.remaining c.args.feeder c.args.source (taken_none g.I.Read.remaining (layout_by g.F.RowFormat.format c.args.source.layout) c.args.source.input c.args.source.counts);
  few = omega arith;
}

pub batches-preserved : goal.batches-preserved
batches-preserved g c =
    let sent = c.in-Sent.ensures in
    record {
      sent = sent_more g.F.RowFormat.format g.I.Read.remaining c.args.feeder c.args.source c.batches.accepted c.batches.feeder c.batches.source c.batches.invariant.sent (taken_both g.I.Read.remaining)
          c.in-Sent.rows c.feed_next.new.feeder c.feed_next.new.source sent.0 sent.1 sent.3 sent.4;
      few = omega (arith, c.batches.invariant.few, sent.2);
    }

-- the feeder stopped, no row is left, or the source failed
pub returns-in-batches-clause-fed : goal.returns-in-batches-clause-fed
returns-in-batches-clause-fed g c =
    let fed = fed_first g.F.RowFormat.format g.I.Read.remaining c.args.feeder c.args.source c.batches.accepted c.batches.feeder c.batches.source c.batches.invariant.sent (taken_both g.I.Read.remaining) c.finish.result in
    let sent : c.feed_next.new.feeder.sent ≡ c.batches.feeder.sent → IfSome c.finish.result.closing (λ closing. closing.rows ≡ c.batches.feeder.sent) =
    λ same. of_some c.finish.result.closing c.finish.ensures.closing (λ closing closes. closes.rows ∙ same) in
    let last = c.feed_next.new.source in
    let bad : c.finish.result.bad ≡ last.counts.bad = c.finish.ensures.bad in
    elim c.match-feed_next.branch [
      | in-Stopped w ↦
          let stopped_is : c.match-feed_next.stopped.0 ≡ true = ap (λ (p : Bool × Option SourceFault). p.0) w.stopped-is in
          fed (sent (ap (λ (s : FeederState). s.sent) w.in-Stopped.ensures.0)) c.finish.ensures.accepted last w.in-Stopped.ensures.1 bad (λ going fine. absurd (cc (stopped_is, c.finish.ensures.stopped, going)))
      | in-Over w ↦
          fed (sent (ap (λ (s : FeederState). s.sent) w.in-Over.ensures.0)) c.finish.ensures.accepted last
          (none_taken g.F.RowFormat.format g.I.Read.remaining c.batches.source last w.in-Over.ensures.2) bad
          (λ going fine. (w.in-Over.ensures.1, w.in-Over.ensures.2))
      | in-Failed w ↦
          let stopped_is : c.match-feed_next.stopped.1 ≡ Some w.in-Failed.fault = ap (λ (p : Bool × Option SourceFault). p.1) w.stopped-is in
          fed (sent (ap (λ (s : FeederState). s.sent) w.in-Failed.ensures.0)) c.finish.ensures.accepted last w.in-Failed.ensures.2 bad (λ going fine. absurd (cc (stopped_is, c.finish.ensures.fault, fine)))
    ]

-- a fault is the one that the source answered
pub returns-in-batches-clause-fault : goal.returns-in-batches-clause-fault
returns-in-batches-clause-fault g c =
    let fails = λ (fault : Option SourceFault). IfSome fault (HasFailed g.F.RowFormat.format g.I.Read.remaining c.args.source c.finish.result.accepted) in
    elim c.match-feed_next.branch [
      | in-Stopped w ↦ subst fails (sym (c.finish.ensures.fault ∙ ap (λ (p : Bool × Option SourceFault). p.1) w.stopped-is)) tt
      | in-Over w ↦ subst fails (sym (c.finish.ensures.fault ∙ ap (λ (p : Bool × Option SourceFault). p.1) w.stopped-is)) tt
      | in-Failed w ↦
          subst fails (sym (c.finish.ensures.fault ∙ ap (λ (p : Bool × Option SourceFault). p.1) w.stopped-is))
          (failed_after g.F.RowFormat.format g.I.Read.remaining c.args.feeder c.args.source c.batches.accepted c.batches.feeder c.batches.source c.batches.invariant.sent c.finish.result.accepted w.in-Failed.fault
          c.finish.ensures.accepted w.in-Failed.ensures.1)
    ]

-- a text of so many records is never met
pub returns-clause-fed : goal.returns-clause-fed
returns-clause-fed g c =
    fed_first g.F.RowFormat.format g.I.Read.remaining c.args.feeder c.args.source c.batches.accepted c.batches.feeder c.batches.source c.batches.invariant.sent (taken_both g.I.Read.remaining) c.finish-2.result
    (of_some c.finish-2.result.closing c.finish-2.ensures.closing (λ closing closes. closes.rows)) c.finish-2.ensures.accepted c.batches.source
    (read_on g.F.RowFormat.format g.I.Read.remaining c.batches.source c.batches.source []
    (passed_none g.F.RowFormat.format g.I.Read.remaining c.batches.source (taken_none g.I.Read.remaining (layout_by g.F.RowFormat.format c.batches.source.layout) c.batches.source.input c.batches.source.counts)).gone
    (taken_both g.I.Read.remaining)) c.finish-2.ensures.bad
    (λ going fine. absurd (cc (c.finish-2.ensures.stopped, going)))
