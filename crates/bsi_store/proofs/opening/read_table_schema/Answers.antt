use Rattle.std.proofs.Common.{◌≡◌, ◌∙◌, ap, inr, refl, subst, sym}
use Rattle.std.specs.Bool.{◌==◌}
use Rattle.std.specs.Prelude.{ℕ, ◌⊎◌, Ok, false, true}
use Rattle.bsi_answers.specs.declared.faults.FilesFault.TheVariants.{NoMemory}
use Rattle.bsi_store.specs.Kinds.{SaysNoSchema}
use Rattle.bsi_store.specs.declared.fault.FileFault.TheVariants.{BadKinds}
use Rattle.bsi_store.specs.declared.fault.StoreFault.{StoreFault}
use Rattle.bsi_store.specs.declared.fault.StoreFault.TheVariants.{Run, Unusable}
use Rattle.bsi_store.proofs.SaidKinds.{kinds_tell, no_schema}
use Rattle.bsi_store.proofs.opening.read_table_schema.Goals as goal
use Rattle.bsi_table.specs.Index.{table_of}

pub returns-in-Err-clause-fault : goal.returns-in-Err-clause-fault
returns-in-Err-clause-fault g =
    let kinds = g.args.saved.now.kinds.items in
    let table = table_of g.args.saved.now.index in
    subst (λ (f : StoreFault). (f ≡ Run NoMemory) ⊎ ((f ≡ Unusable g.args.path BadKinds) × SaysNoSchema kinds table)) (sym g.kinds_fault.ensures)
    (kinds_tell kinds g.as_slice.result.now table g.args.path g.in-Err.fault g.as_slice.ensures.value
    (subst (λ (n : ℕ). false ≡ (n == 0)) (sym g.as_slice.ensures.len) g.if-is_empty.ensures) g.in-Err.ensures.read)

pub returns-then-not-is_same-clause-fault : goal.returns-then-not-is_same-clause-fault
returns-then-not-is_same-clause-fault g =
    let kinds = g.args.saved.now.kinds.items in
    let table = table_of g.args.saved.now.index in
    inr (
      refl,
      no_schema kinds g.as_slice.result.now table (Ok g.in-Ok.logical) g.as_slice.ensures.value
          (subst (λ (n : ℕ). false ≡ (n == 0)) (sym g.as_slice.ensures.len) g.if-is_empty.ensures) g.in-Ok.ensures.read (λ said reads same.
          let is : g.schema-2.result.now ≡ g.schema-3.result.now =
          g.schema-2.ensures.schema ∙ (ap (λ l. l.schema) reads ∙ (same ∙ sym g.schema-3.ensures.schema)) in
          let not : false ≡ true = g.if-not-is_same.ensures.1 is in
          cc (not)),
    )
