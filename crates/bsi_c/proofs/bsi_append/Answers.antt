use Rattle.bsi_ffi.proofs.Statuses.{where_other}
use Rattle.bsi_ffi.specs.declared.refusal.Refusal.TheVariants.{NoMemory}
use Rattle.bsi_c.proofs.bsi_append.Goals as goal

pub returns-clause-status : goal.returns-clause-status
returns-clause-status c = (c.append.result, c.status_of.ensures, c.append.ensures.ending)

pub returns-clause-unchanged : goal.returns-clause-unchanged
returns-clause-unchanged c = where_other NoMemory _ c.append.result _ c.status_of.ensures c.append.ensures.unchanged
