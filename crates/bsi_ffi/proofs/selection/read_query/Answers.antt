use Rattle.bsi_ffi.proofs.selection.read_query.Goals as goal

-- the fields stop before
pub returns-in-Err-Stopped : goal.returns-in-Err-Stopped
returns-in-Err-Stopped c = rw c.in-Err-Stopped.field-0-is at c.in-Err-Stopped.ensures
