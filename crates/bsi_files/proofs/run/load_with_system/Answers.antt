use Rattle.std.proofs.Common.{◌≡◌, All, List, length, ap, subst, sym, ◌∙◌}
use Rattle.std.specs.Prelude.{IfErr, IfOk}
use Rattle.bsi_system.specs.Rings.{FeederState}
use Rattle.bsi_system.specs.LoaderSteps.{IsFeederOf, LoaderState}
use Rattle.bsi_rows.specs.Table.{Table}
use Rattle.bsi_files.specs.Ends.{AreFeeders, AreReady}
use Rattle.bsi_files.specs.Feds.{IsAllFed}
use Rattle.bsi_files.specs.RunFaults.{IsLoadFault}
use Rattle.bsi_files.specs.declared.run.Loaded.{Loaded}
use Rattle.bsi_files.proofs.Progress.{feeders_are, feeders_long}
use Rattle.bsi_files.proofs.run.load_with_system.Goals as goal

-- the feeders that were opened
pub feed_files-requires-clause-ready : goal.feed_files-requires-clause-ready
feed_files-requires-clause-ready g c =
    let system = c.in-Ok.field-0.loader.system in
    let feeders = c.in-Ok.field-0.feeders.items in
    let capacities = c.args.capacities.items in
    let is = c.in-Ok.ensures.feeders in
    let channels : length system.channels ≡ length feeders = sym (ap (λ (fs : List FeederState). length fs) is ∙ feeders_long 0 system.channels capacities c.in-Ok.ensures.channels) in
    let sources = c.args.sources.items in
    let ready : AreReady system g.B.SystemTag.about.limit feeders sources = record {
      own = subst (λ (fs : List FeederState). AreFeeders system 0 fs) (sym is)
          (feeders_are system 0 system.channels capacities (subst (λ (fs : List FeederState). All (λ feeder. IsFeederOf feeder system) fs) is c.in-Ok.ensures.own));
      channels = channels;
      many = c.requires.many ∙ (sym c.in-Ok.ensures.channels ∙ channels);
      few = c.requires.few;
      most = ap (λ (s : LoaderState). s.system.limit) c.in-Ok.ensures.loader ∙ sym (ap (λ (t : Table). t.limit) c.requires.about);
    } in λ κs outlive. ready

pub returns-in-Ok-clause-fed : goal.returns-in-Ok-clause-fed
returns-in-Ok-clause-fed g c =
    subst (λ (t : Table). IfOk c.feed_files.result (λ (loaded : Loaded). IsAllFed g.F.RowFormat.format g.I.Read.remaining g.G.Stopping.STOPS t.limit loaded.table.rows c.args.sources.items loaded.fed.items))
    c.requires.about c.feed_files.ensures.fed

pub returns-in-Ok-clause-fault : goal.returns-in-Ok-clause-fault
returns-in-Ok-clause-fault g c =
    subst (λ (t : Table). IfErr c.feed_files.result (IsLoadFault g.F.RowFormat.format g.I.Read.remaining g.G.Stopping.STOPS t.limit c.args.sources.items)) c.requires.about c.feed_files.ensures.fault
