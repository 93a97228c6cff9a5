use Rattle.bsi_segments.proofs.Unique.{only_these, no_fault, some_bytes}
use Rattle.bsi_segments.proofs.laws.counted_words_are_read.Goals as goal

pub returns-clause-words : goal.returns-clause-words
returns-clause-words c = λ version other words others rest after are others_are consumed. only_these version words rest are other others after others_are consumed

pub returns-clause-some : goal.returns-clause-some
returns-clause-some c = λ version words rest after only. some_bytes version words rest after only

pub returns-clause-fault : goal.returns-clause-fault
returns-clause-fault c = λ version words rest after fault are meets. no_fault version words rest are after fault meets
