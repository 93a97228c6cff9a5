use Rattle.std.proofs.Common.{inl}
use Rattle.bsi_store.proofs.opening.read_saved.Goals as goal

pub returns-in-Err-clause-fault : goal.returns-in-Err-clause-fault
returns-in-Err-clause-fault g c = inl (c.in-Err.fault, g.S.Read.remaining c.read_index.new.reader, c.in-Err.ensures.fault, c.unopened.ensures)
