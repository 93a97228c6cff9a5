use Rattle.bsi_ffi.proofs.Statuses.{where_done, where_other, where_refused}
use Rattle.bsi_ffi.specs.declared.refusal.Refusal.TheVariants.{BufferTooSmall}
use Rattle.bsi_c.proofs.bsi_open_kept.Goals as goal

pub returns-clause-status : goal.returns-clause-status
returns-clause-status c = (c.open_saved.result, c.status_of.ensures, c.open_saved.ensures.ending)

pub returns-clause-size_unchanged : goal.returns-clause-size_unchanged
returns-clause-size_unchanged c = where_other BufferTooSmall _ c.open_saved.result _ c.status_of.ensures c.open_saved.ensures.size_unchanged

pub returns-clause-notes_unchanged : goal.returns-clause-notes_unchanged
returns-clause-notes_unchanged c = where_refused _ c.open_saved.result _ c.status_of.ensures c.open_saved.ensures.notes_unchanged

pub returns-clause-rest_unchanged : goal.returns-clause-rest_unchanged
returns-clause-rest_unchanged c = where_done _ c.open_saved.result _ c.status_of.ensures c.open_saved.ensures.rest_unchanged

pub returns-clause-unchanged : goal.returns-clause-unchanged
returns-clause-unchanged c = where_refused _ c.open_saved.result _ c.status_of.ensures c.open_saved.ensures.unchanged
