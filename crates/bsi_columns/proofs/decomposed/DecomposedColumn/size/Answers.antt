use Rattle.std.proofs.Common.{arith}
use Rattle.bsi_columns.proofs.ComponentLists.{size_at_least_two}
use Rattle.bsi_columns.proofs.decomposed.DecomposedColumn.size.Goals as goal

pub returns-clause-within : goal.returns-clause-within
returns-clause-within g c = (omega (arith, size_at_least_two c.size.ensures.valid), omega arith)
