use Rattle.bsi_ffi.proofs.Statuses.{where_done, where_other, where_refused}
use Rattle.bsi_ffi.specs.declared.refusal.Refusal.TheVariants.{BufferTooSmall}
use Rattle.bsi_c.proofs.bsi_kinds.Goals as goal

pub returns-clause-status : goal.returns-clause-status
returns-clause-status c = (c.tell_kinds.result, c.status_of.ensures, c.tell_kinds.ensures.ending)

pub returns-clause-size_unchanged : goal.returns-clause-size_unchanged
returns-clause-size_unchanged c = where_other BufferTooSmall _ c.tell_kinds.result _ c.status_of.ensures c.tell_kinds.ensures.size_unchanged

pub returns-clause-text_unchanged : goal.returns-clause-text_unchanged
returns-clause-text_unchanged c = where_refused _ c.tell_kinds.result _ c.status_of.ensures c.tell_kinds.ensures.text_unchanged

pub returns-clause-rest_unchanged : goal.returns-clause-rest_unchanged
returns-clause-rest_unchanged c = where_done _ c.tell_kinds.result _ c.status_of.ensures c.tell_kinds.ensures.rest_unchanged
