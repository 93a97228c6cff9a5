use Rattle.bsi_ffi.proofs.Statuses.{where_done, where_other, where_refused}
use Rattle.bsi_ffi.specs.declared.refusal.Refusal.TheVariants.{BufferTooSmall}
use Rattle.bsi_c.proofs.bsi_schema.Goals as goal

pub returns-clause-status : goal.returns-clause-status
returns-clause-status c = (c.describe.result, c.status_of.ensures, c.describe.ensures.ending)

pub returns-clause-size_unchanged : goal.returns-clause-size_unchanged
returns-clause-size_unchanged c = where_other BufferTooSmall _ c.describe.result _ c.status_of.ensures c.describe.ensures.size_unchanged

pub returns-clause-text_unchanged : goal.returns-clause-text_unchanged
returns-clause-text_unchanged c = where_refused _ c.describe.result _ c.status_of.ensures c.describe.ensures.text_unchanged

pub returns-clause-rest_unchanged : goal.returns-clause-rest_unchanged
returns-clause-rest_unchanged c = where_done _ c.describe.result _ c.status_of.ensures c.describe.ensures.rest_unchanged
