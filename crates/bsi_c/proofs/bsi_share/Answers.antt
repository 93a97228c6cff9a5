use Rattle.bsi_ffi.proofs.Statuses.{where_other, where_refused}
use Rattle.bsi_ffi.specs.declared.refusal.Refusal.TheVariants.{NoMemory}
use Rattle.bsi_c.proofs.bsi_share.Goals as goal

pub returns-clause-status : goal.returns-clause-status
returns-clause-status c = (c.share.result, c.status_of.ensures, c.share.ensures.ending)

pub returns-clause-unchanged : goal.returns-clause-unchanged
returns-clause-unchanged c = where_other NoMemory _ c.share.result _ c.status_of.ensures c.share.ensures.unchanged

pub returns-clause-index_unchanged : goal.returns-clause-index_unchanged
returns-clause-index_unchanged c = where_refused _ c.share.result _ c.status_of.ensures c.share.ensures.index_unchanged

pub returns-clause-other_unchanged : goal.returns-clause-other_unchanged
returns-clause-other_unchanged c = where_refused _ c.share.result _ c.status_of.ensures c.share.ensures.other_unchanged
