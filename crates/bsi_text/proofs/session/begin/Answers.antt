use Rattle.std.proofs.Common.{◌<◌, length, subst, rules, arith}
use Rattle.std.proofs.lemmas.Bool.Decides.{nat_tests}
use Rattle.bsi_rows.specs.Sizes.{sizes_refusal}
use Rattle.bsi_rows.specs.declared.sizes.MakeError.TheVariants.{NoMemory}
use Rattle.bsi_rows.specs.Refusals.{IsFirstOr}
use Rattle.bsi_text.proofs.Machines.{sizes_taken}
use Rattle.bsi_text.proofs.session.begin.Goals as goal

-- the sizes are in range
pub map_err-requires : goal.map_err-requires
map_err-requires c = λ refused is.
    let setup = c.args.declared in
    let columns : 0 < length setup.table.schema.columns = let can = c.requires in grind (arith, nat_tests, can) in
    let feeders : 0 < length setup.capacities = let can = c.requires in grind (arith, nat_tests, can) in
    let none = sizes_taken setup.table.schema setup.capacities setup.table.limit c.into_parts-table.ensures.sizes columns feeders in
    let told = rw is at c.new.ensures.refused in
    let first : IsFirstOr NoMemory (sizes_refusal setup.table.schema setup.capacities setup.table.limit) refused =
    search (rules, told, c.into_parts-table.ensures.table, c.into_parts-table.ensures.capacities) in
    subst (λ o. IsFirstOr NoMemory o refused) none first
