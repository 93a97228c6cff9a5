use Rattle.bsi_ffi.proofs.Statuses.{where_refused}
use Rattle.bsi_c.proofs.bsi_rows.Goals as goal

pub returns-clause-status : goal.returns-clause-status
returns-clause-status c = (c.count.result, c.status_of.ensures, c.count.ensures.ending)

pub returns-clause-rows_unchanged : goal.returns-clause-rows_unchanged
returns-clause-rows_unchanged c = where_refused _ c.count.result _ c.status_of.ensures c.count.ensures.rows_unchanged
