use Rattle.bsi_input.specs.Sources.{IsPlainReader}
use Rattle.bsi_check.proofs.schema.read_up_to.Given as goal

-- the next record can be read
abbrev pub invariant-records : goal.invariant-records
invariant-records l = IsPlainReader l.input
