use Rattle.std.proofs.Common.{◌≡◌, length, get_or}
use Rattle.bsi_inference.specs.declared.decision.Decision.{Decision}
use Rattle.bsi_survey.specs.Decided.{IsColumnOf}
use Rattle.bsi_survey.proofs.Lists.{AreEach}
use Rattle.bsi_survey.proofs.deciding.list_columns.Given as goal

-- the columns of the decisions so far are listed
abbrev pub invariant-decisions : goal.invariant-decisions
invariant-decisions l = record {
  len : length l.columns.items ≡ length l.yielded;
  listed : AreEach (λ k column. (d : Decision) → IsColumnOf (get_or l.fn.decisions.items k d) column) l.columns.items;
}
