use Rattle.std.proofs.Common.{◌≡◌, None, length, map, sym, subst, rules}
use Rattle.bsi_rows.specs.Table.{no_rows}
use Rattle.bsi_rows.specs.Shown.{IsMachine}
use Rattle.bsi_rows.specs.Sizes.{new_feeder, sizes_refusal}
use Rattle.bsi_table.specs.Index.{table_of}
use Rattle.bsi_load.proofs.Machines.{machine_new}
use Rattle.bsi_load.proofs.machine.Core.new.Goals as goal

pub invariant_of-result : goal.invariant_of-result
invariant_of-result c =
    let capacities = c.args.capacities.items in
    let none : sizes_refusal c.args.schema capacities c.args.limit ≡ None = search (rules, c.check_sizes.ensures, c.in_ok-check_sizes.was) in
    let index_is : table_of c.in_ok-index.index ≡ no_rows c.args.schema (length capacities) c.args.limit = search (rules, c.in_ok-index.ensures.ok) in
    let feeders_are : c.in_ok-feeders.feeders.items ≡ map new_feeder capacities = search (rules, c.in_ok-feeders.ensures) in
    subst (λ index. IsMachine index c.in_ok-feeders.feeders.items) (sym index_is)
    (subst (IsMachine (no_rows c.args.schema (length capacities) c.args.limit)) (sym feeders_are) (machine_new c.args.schema capacities c.args.limit none))
