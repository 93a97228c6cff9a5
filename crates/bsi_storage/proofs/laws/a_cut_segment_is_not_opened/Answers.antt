use Rattle.bsi_storage.proofs.Openings.{first_cut, not_opened}
use Rattle.bsi_storage.proofs.laws.a_cut_segment_is_not_opened.Goals as goal

pub returns-clause-none : goal.returns-clause-none
returns-clause-none c = λ cut t notes kinds size after fault is opened. not_opened cut is t notes kinds size after fault opened

pub returns-clause-fault : goal.returns-clause-fault
returns-clause-fault c = λ cut after fault is met. first_cut cut is after fault met
