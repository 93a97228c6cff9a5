use Rattle.bsi_inference.specs.ColumnCandidates.{LooksFor}
use Rattle.bsi_test_text.proofs.inferring.column_of.Given as goal

abbrev pub invariant-fields : goal.invariant-fields
invariant-fields l = LooksFor 46 l.column
