use Rattle.bsi_ffi.proofs.Statuses.{where_done, where_other, where_refused}
use Rattle.bsi_ffi.specs.declared.refusal.Refusal.TheVariants.{BufferTooSmall}
use Rattle.bsi_c.proofs.bsi_save.Goals as goal

pub returns-clause-status : goal.returns-clause-status
returns-clause-status c = (c.save.result, c.status_of.ensures, c.save.ensures.ending)

pub returns-clause-size_unchanged : goal.returns-clause-size_unchanged
returns-clause-size_unchanged c = where_other BufferTooSmall _ c.save.result _ c.status_of.ensures c.save.ensures.size_unchanged

pub returns-clause-bytes_unchanged : goal.returns-clause-bytes_unchanged
returns-clause-bytes_unchanged c = where_refused _ c.save.result _ c.status_of.ensures c.save.ensures.bytes_unchanged

pub returns-clause-rest_unchanged : goal.returns-clause-rest_unchanged
returns-clause-rest_unchanged c = where_done _ c.save.result _ c.status_of.ensures c.save.ensures.rest_unchanged
