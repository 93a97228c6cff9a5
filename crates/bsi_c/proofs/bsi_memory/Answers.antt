use Rattle.bsi_ffi.proofs.Statuses.{where_refused}
use Rattle.bsi_c.proofs.bsi_memory.Goals as goal

pub returns-clause-status : goal.returns-clause-status
returns-clause-status c = (c.memory_bytes.result, c.status_of.ensures, c.memory_bytes.ensures.ending)

pub returns-clause-bytes_unchanged : goal.returns-clause-bytes_unchanged
returns-clause-bytes_unchanged c = where_refused _ c.memory_bytes.result _ c.status_of.ensures c.memory_bytes.ensures.bytes_unchanged
