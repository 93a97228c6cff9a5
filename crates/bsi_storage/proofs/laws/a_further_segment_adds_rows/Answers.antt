use Rattle.bsi_storage.proofs.Files.{first_saved, more_saved}
use Rattle.bsi_storage.proofs.laws.a_further_segment_adds_rows.Goals as goal

pub returns-clause-first : goal.returns-clause-first
returns-clause-first c = λ version t notes kinds valid. first_saved version t notes kinds valid

pub returns-clause-further : goal.returns-clause-further
returns-clause-further c = λ version bytes t more notes others kinds same file valid may. more_saved version bytes t more notes others kinds same file valid may
