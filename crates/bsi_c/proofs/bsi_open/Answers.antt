use Rattle.bsi_ffi.proofs.Statuses.{where_refused}
use Rattle.bsi_c.proofs.bsi_open.Goals as goal

pub returns-clause-status : goal.returns-clause-status
returns-clause-status c = (c.open.result, c.status_of.ensures, c.open.ensures.ending)

pub returns-clause-unchanged : goal.returns-clause-unchanged
returns-clause-unchanged c = where_refused _ c.open.result _ c.status_of.ensures c.open.ensures.unchanged
