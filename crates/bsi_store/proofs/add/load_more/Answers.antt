use Rattle.std.proofs.Common.{◌≡◌, ℕ, inr, map, rules, subst}
use Rattle.std.specs.Prelude.{IfErr}
use Rattle.bsi_answers.proofs.Passing.{if_err}
use Rattle.bsi_files.specs.RunFaults.{IsFaultOver}
use Rattle.bsi_logical.specs.TableSchemas.{format_of}
use Rattle.bsi_store.specs.declared.fault.StoreFault.{StoreFault}
use Rattle.bsi_store.specs.declared.fault.StoreFault.TheVariants.{Run}
use Rattle.bsi_store.proofs.Failing.{load_fault}
use Rattle.bsi_store.proofs.add.load_more.Goals as goal

-- the rows were not loaded
pub returns-in_err-table-clause-fault : goal.returns-in_err-table-clause-fault
returns-in_err-table-clause-fault g c =
    let run = c.in_err-table.field-0.0 in
    let saved = c.args.saved.now in
    let format = format_of c.args.schema.now in
    let files = map g.S.Read.remaining c.args.rows.items in
    let over : IsFaultOver g.G.Stopping.STOPS format saved.limit files run = subst (λ (n : ℕ). IsFaultOver g.G.Stopping.STOPS format n files run) c.limit.ensures.limit
    c.in_err-table.ensures.fault in
    let met : IfErr c.from_residual.result (λ (fault : StoreFault). fault ≡ Run run) = search rules in
    if_err c.from_residual.result
    (λ fault is. inr (inr (run, is, load_fault g.G.Stopping.STOPS format saved.limit files run c.requires.never c.in_err-table.ensures.counted c.in_err-table.ensures.follows_output over))) met
