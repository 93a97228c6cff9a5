use Rattle.bsi_ffi.proofs.Statuses.{where_refused}
use Rattle.bsi_c.proofs.bsi_select.Goals as goal

pub returns-clause-status : goal.returns-clause-status
returns-clause-status c = (c.select.result, c.status_of.ensures, c.select.ensures.ending)

pub returns-clause-words_unchanged : goal.returns-clause-words_unchanged
returns-clause-words_unchanged c = where_refused _ c.select.result _ c.status_of.ensures c.select.ensures.words_unchanged
