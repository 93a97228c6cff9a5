use Rattle.std.proofs.Common.{arith}
use Rattle.bsi_kinds.proofs.Clocks.{part_small}
use Rattle.bsi_kinds.proofs.Scaling.{ten_some}
use Rattle.bsi_kinds.proofs.clock.scan_subsecond.Goals as goal

pub returns-in-empty-clause-few : goal.returns-in-empty-clause-few
returns-in-empty-clause-few c = ten_some c.args.places

pub returns-in-46-clause-few : goal.returns-in-46-clause-few
returns-in-46-clause-few c =
    part_small c.args.places c.args.text.now c.scan_mantissa.result c.in-46.len_at_least (omega arith) c.scan_mantissa.ensures
