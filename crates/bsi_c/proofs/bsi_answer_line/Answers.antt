use Rattle.bsi_ffi.proofs.Statuses.{where_done, where_other, where_refused}
use Rattle.bsi_ffi.specs.declared.refusal.Refusal.TheVariants.{BufferTooSmall}
use Rattle.bsi_c.proofs.bsi_answer_line.Goals as goal

pub returns-clause-status : goal.returns-clause-status
returns-clause-status c = (c.answer_line.result, c.status_of.ensures, c.answer_line.ensures.ending)

pub returns-clause-size_unchanged : goal.returns-clause-size_unchanged
returns-clause-size_unchanged c = where_other BufferTooSmall _ c.answer_line.result _ c.status_of.ensures c.answer_line.ensures.size_unchanged

pub returns-clause-line_unchanged : goal.returns-clause-line_unchanged
returns-clause-line_unchanged c = where_refused _ c.answer_line.result _ c.status_of.ensures c.answer_line.ensures.line_unchanged

pub returns-clause-rest_unchanged : goal.returns-clause-rest_unchanged
returns-clause-rest_unchanged c = where_done _ c.answer_line.result _ c.status_of.ensures c.answer_line.ensures.rest_unchanged
