use Rattle.bsi_ffi.proofs.Statuses.{where_refused}
use Rattle.bsi_c.proofs.bsi_set_kinds.Goals as goal

pub returns-clause-status : goal.returns-clause-status
returns-clause-status c = (c.set_kinds.result, c.status_of.ensures, c.set_kinds.ensures.ending)

pub returns-clause-unchanged : goal.returns-clause-unchanged
returns-clause-unchanged c = where_refused _ c.set_kinds.result _ c.status_of.ensures c.set_kinds.ensures.unchanged
