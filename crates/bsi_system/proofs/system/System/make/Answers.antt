use Rattle.std.proofs.Common.{◌∙◌, [], ap, length, refl, subst}
use Rattle.bsi_rows.specs.Table.{no_rows}
use Rattle.bsi_system.specs.Rings.{AreOpened}
use Rattle.bsi_system.proofs.Beginning.{opened_alike, opened_loader, opened_loading}
use Rattle.bsi_system.proofs.Mapped.{mapped_ok}
use Rattle.bsi_system.proofs.system.System.make.Goals as goal

pub invariant_of-result : goal.invariant_of-result
invariant_of-result g c =
    let schema = c.args.schema in
    let feeders = c.in_ok-feeders.field-0.feeders.items in
    let readers = c.in_ok-feeders.field-0.readers.items in
    let capacities = c.args.capacities.now in
    let shared = mapped_ok _ _ c.new.result c.map_err.result c.in_ok-shared.shared c.map_err.ensures.cases c.new.ensures.ok c.in_ok-shared.was in
    let opened = subst (λ s. AreOpened s capacities feeders readers) shared c.in_ok-feeders.ensures in
    let w = c.in_ok-publisher.publisher in
    let is = c.in_ok-publisher.ensures ∙ ap (λ t. record { table = t; staged = [] }) (c.in_ok-index.ensures.ok ∙ ap (λ s. no_rows s (length capacities) c.args.limit) shared) in
    opened_loader schema capacities feeders readers opened w (length capacities) c.args.limit refl is

pub returns-clause-loader : goal.returns-clause-loader
returns-clause-loader g c =
    let schema = c.args.schema in
    let feeders = c.in_ok-feeders.field-0.feeders.items in
    let readers = c.in_ok-feeders.field-0.readers.items in
    let capacities = c.args.capacities.now in
    let shared = mapped_ok _ _ c.new.result c.map_err.result c.in_ok-shared.shared c.map_err.ensures.cases c.new.ensures.ok c.in_ok-shared.was in
    let opened = subst (λ s. AreOpened s capacities feeders readers) shared c.in_ok-feeders.ensures in
    let w = c.in_ok-publisher.publisher in
    let is = c.in_ok-publisher.ensures ∙ ap (λ t. record { table = t; staged = [] }) (c.in_ok-index.ensures.ok ∙ ap (λ s. no_rows s (length capacities) c.args.limit) shared) in
    opened_loading schema capacities feeders readers opened w (length capacities) c.args.limit refl is

pub returns-clause-alike : goal.returns-clause-alike
returns-clause-alike g c =
    let schema = c.args.schema in
    let feeders = c.in_ok-feeders.field-0.feeders.items in
    let readers = c.in_ok-feeders.field-0.readers.items in
    let capacities = c.args.capacities.now in
    let shared = mapped_ok _ _ c.new.result c.map_err.result c.in_ok-shared.shared c.map_err.ensures.cases c.new.ensures.ok c.in_ok-shared.was in
    let opened = subst (λ s. AreOpened s capacities feeders readers) shared c.in_ok-feeders.ensures in
    opened_alike schema capacities feeders readers opened
