use Rattle.std.proofs.Common.{inl, inr, refl}
use Rattle.bsi_storage.specs.declared.fault.OpenFault.TheVariants as opening
use Rattle.bsi_store.proofs.target.open_old.Goals as goal

-- the file that was opened does not begin as a saved index
pub returns-in-Ok-false-may_begin-clause-fault : goal.returns-in-Ok-false-may_begin-clause-fault
returns-in-Ok-false-may_begin-clause-fault g c =
    let meets = c.in-Ok-false-may_begin.ensures.no c.in-Ok-false-may_begin.field-0-test in
    inr (c.args.path, c.in_ok-old.old, inl (opening.NotAnIndex, g.S.Read.remaining c.may_begin.new.reader, inl meets, refl))

-- or can't be read
pub returns-clause-fault : goal.returns-clause-fault
returns-clause-fault g c =
    inr (c.args.path, c.in_ok-old.old, inl (opening.Read, g.S.Read.remaining c.in_ok-old.old, tt, refl))
