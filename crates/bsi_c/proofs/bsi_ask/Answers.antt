use Rattle.bsi_ffi.proofs.Statuses.{where_done, where_other, where_refused}
use Rattle.bsi_ffi.specs.declared.refusal.Refusal.TheVariants.{BufferTooSmall}
use Rattle.bsi_c.proofs.bsi_ask.Goals as goal

pub returns-clause-status : goal.returns-clause-status
returns-clause-status c = (c.ask.result, c.status_of.ensures, c.ask.ensures.ending)

pub returns-clause-answer_unchanged : goal.returns-clause-answer_unchanged
returns-clause-answer_unchanged c = where_other BufferTooSmall _ c.ask.result _ c.status_of.ensures c.ask.ensures.answer_unchanged

pub returns-clause-origins_unchanged : goal.returns-clause-origins_unchanged
returns-clause-origins_unchanged c = where_refused _ c.ask.result _ c.status_of.ensures c.ask.ensures.origins_unchanged

pub returns-clause-rest_unchanged : goal.returns-clause-rest_unchanged
returns-clause-rest_unchanged c = where_done _ c.ask.result _ c.status_of.ensures c.ask.ensures.rest_unchanged
