use Rattle.std.proofs.Common.{◌≡◌, List, ap, ◌∙◌, subst, sym}
use Rattle.std.specs.Prelude.{IfSome}
use Rattle.bsi_system.specs.Rings.{RingReader}
use Rattle.bsi_system.specs.LoaderSteps.{carried, settled_as, IsLoader, LoaderState}
use Rattle.bsi_system.proofs.Progress.{always_holds, settles_loader, settles_loading, settles_once}
use Rattle.bsi_system.proofs.loader.Loader.settle.Goals as goal

pub invariant_of-self-2 : goal.invariant_of-self-2
invariant_of-self-2 g c =
    let l = c.self.inside in
    settles_loader l.readers.items l.publisher c.args.feeder c.args.closing c.settle_reader.new.readers.items c.in_ok-settle_reader.ensures.ok.1 c.self.invariant

pub returns-clause-ok : goal.returns-clause-ok
returns-clause-ok g c =
    let l = c.self.inside in (
      c.in_ok-settle_reader.ensures.ok.0,
      settles_loading l.readers.items l.publisher c.args.feeder c.args.closing c.settle_reader.new.readers.items c.in_ok-settle_reader.ensures.ok.1
          ∙ ap (λ s. settled_as s c.args.feeder c.args.closing.rows) c.self.view_is,
    )

pub returns-clause-once : goal.returns-clause-once
returns-clause-once g c =
    let l = c.self.inside in
    subst (λ s. IfSome (carried s c.args.feeder) (λ sent. c.args.closing.rows ≡ sent)) c.self.view_is
    (settles_once l.readers.items l.publisher c.args.feeder c.args.closing c.settle_reader.new.readers.items c.in_ok-settle_reader.ensures.ok.1)

pub returns-clause-always : goal.returns-clause-always
returns-clause-always g c =
    let l = c.self.inside in
    let new = c.settle_reader.new.readers.items in
    always_holds new l.publisher (settles_loader l.readers.items l.publisher c.args.feeder c.args.closing new c.in_ok-settle_reader.ensures.ok.1 c.self.invariant)

pub returns-clause-system : goal.returns-clause-system
returns-clause-system g c =
    let l = c.self.inside in
    ap (λ (s : LoaderState). s.system) (settles_loading l.readers.items l.publisher c.args.feeder c.args.closing c.settle_reader.new.readers.items c.in_ok-settle_reader.ensures.ok.1)
    ∙ ap (λ (s : LoaderState). s.system) c.self.view_is

pub returns-in_err-settle_reader-clause-always : goal.returns-in_err-settle_reader-clause-always
returns-in_err-settle_reader-clause-always g c =
    let l = c.self.inside in
    let new = c.settle_reader.new.readers.items in
    let same : new ≡ l.readers.items = ap (λ v. v.items) c.in_err-settle_reader.ensures.unchanged in
    always_holds new l.publisher (subst (λ (xs : List RingReader). IsLoader xs l.publisher) (sym same) c.self.invariant)
