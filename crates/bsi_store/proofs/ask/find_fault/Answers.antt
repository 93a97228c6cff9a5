use Rattle.std.proofs.Common.{None, inl, refl, subst, sym}
use Rattle.bsi_storage.specs.declared.fault.OpenFault.TheVariants as opening
use Rattle.bsi_store.specs.Faults.{IsOfFile}
use Rattle.bsi_store.proofs.ask.find_fault.Goals as goal
use Rattle.bsi_store.proofs.ask.find_fault.Goals.{in-Err, in-Ok}

-- the file that was opened as a whole, or the fault that it has
pub returns-clause-fault : goal.returns-clause-fault
returns-clause-fault g c =
    let rem = g.S.Read.remaining in
    elim c.match-open_index.branch [
      | in-Ok w ↦ subst (IsOfFile rem) (sym w.result-is) (w.in-Ok.ensures.opened.saved.file, inl (opening.Read, None, tt, refl))
      | in-Err w ↦ subst (IsOfFile rem) (sym w.result-is) w.in-Err.ensures.fault
    ]
