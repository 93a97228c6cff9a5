use Rattle.std.proofs.Common.{◌≡◌, ap, rules, subst, sym, ◌∙◌}
use Rattle.bsi_system.specs.Readers.{StagesFirst}
use Rattle.bsi_system.specs.LoaderSteps.{loader_state, IsLoader, LoaderState, LoadsOne}
use Rattle.bsi_system.proofs.Mapped.{mapped_ok}
use Rattle.bsi_system.proofs.Progress.{always_holds, looks_loading, one_of_many, pops_loader, pops_many, same_loader}
use Rattle.bsi_system.proofs.loader.Loader.load.Goals as goal

pub invariant_of-self-2 : goal.invariant_of-self-2
invariant_of-self-2 g c =
    let l = c.self.inside in
    let f = c.args.feeder in
    let readers = c.check_first.new.readers.items in
    let next = c.stage_first.new.publisher in
    let holds = mapped_ok (λ done. StagesFirst readers f l.publisher 1 next) _ c.stage_first.result c.map_err.result tt c.map_err.ensures.cases c.stage_first.ensures.ok c.in_ok-map_err.was in
    pops_loader readers l.publisher f 1 c.pop_rows_of.new.readers.items next c.pop_rows_of.ensures holds
    (same_loader l.readers.items l.publisher c.self.invariant f readers c.in_ok-check_first.ensures.same)

pub returns-clause-loaded : goal.returns-clause-loaded
returns-clause-loaded g c =
    let l = c.self.inside in
    let f = c.args.feeder in
    let readers = c.check_first.new.readers.items in
    let new = c.pop_rows_of.new.readers.items in
    let next = c.stage_first.new.publisher in
    let same = c.in_ok-check_first.ensures.same in
    let holds = mapped_ok (λ done. StagesFirst readers f l.publisher 1 next) _ c.stage_first.result c.map_err.result tt c.map_err.ensures.cases c.stage_first.ensures.ok c.in_ok-map_err.was in
    let many = pops_many readers l.publisher f 1 new next c.pop_rows_of.ensures holds (loader_state l.readers.items l.publisher)
    (same_loader l.readers.items l.publisher c.self.invariant f readers same) (looks_loading l.readers.items l.publisher c.self.invariant f readers same) in
    subst (λ s. LoadsOne s f (loader_state new next)) c.self.view_is (one_of_many (loader_state l.readers.items l.publisher) f (loader_state new next) many)

pub returns-in_err-check_first-clause-always : goal.returns-in_err-check_first-clause-always
returns-in_err-check_first-clause-always g c =
    let l = c.self.inside in
    let readers = c.check_first.new.readers.items in
    always_holds readers l.publisher (same_loader l.readers.items l.publisher c.self.invariant c.args.feeder readers c.in_err-check_first.ensures.same)

pub returns-in_err-map_err-clause-always : goal.returns-in_err-map_err-clause-always
returns-in_err-map_err-clause-always g c =
    let l = c.self.inside in
    let readers = c.check_first.new.readers.items in
    let next = c.stage_first.new.publisher in
    let same : next ≡ l.publisher = search rules in
    always_holds readers next (subst (IsLoader readers) (sym same) (same_loader l.readers.items l.publisher c.self.invariant c.args.feeder readers c.in_ok-check_first.ensures.same))

pub returns-clause-always : goal.returns-clause-always
returns-clause-always g c =
    let l = c.self.inside in
    let f = c.args.feeder in
    let readers = c.check_first.new.readers.items in
    let next = c.stage_first.new.publisher in
    let holds = mapped_ok (λ done. StagesFirst readers f l.publisher 1 next) _ c.stage_first.result c.map_err.result tt c.map_err.ensures.cases c.stage_first.ensures.ok c.in_ok-map_err.was in
    always_holds c.pop_rows_of.new.readers.items next (pops_loader readers l.publisher f 1 c.pop_rows_of.new.readers.items next c.pop_rows_of.ensures holds
    (same_loader l.readers.items l.publisher c.self.invariant f readers c.in_ok-check_first.ensures.same))

pub returns-clause-system : goal.returns-clause-system
returns-clause-system g c =
    let l = c.self.inside in
    let f = c.args.feeder in
    let readers = c.check_first.new.readers.items in
    let new = c.pop_rows_of.new.readers.items in
    let next = c.stage_first.new.publisher in
    let same = c.in_ok-check_first.ensures.same in
    let holds = mapped_ok (λ done. StagesFirst readers f l.publisher 1 next) _ c.stage_first.result c.map_err.result tt c.map_err.ensures.cases c.stage_first.ensures.ok c.in_ok-map_err.was in
    let many = pops_many readers l.publisher f 1 new next c.pop_rows_of.ensures holds (loader_state l.readers.items l.publisher)
    (same_loader l.readers.items l.publisher c.self.invariant f readers same) (looks_loading l.readers.items l.publisher c.self.invariant f readers same) in
    ap (λ (s : LoaderState). s.system) many.loads ∙ ap (λ (s : LoaderState). s.system) c.self.view_is
