use Rattle.std.proofs.Common.{◌≡◌, length, get_or}
use Rattle.bsi_inference.specs.declared.candidates.Candidates.{Candidates}
use Rattle.bsi_survey.specs.Decided.{IsDecided}
use Rattle.bsi_survey.proofs.Lists.{AreEach}
use Rattle.bsi_survey.proofs.deciding.decide_each.Given as goal

-- the columns so far are decided
abbrev pub invariant-columns : goal.invariant-columns
invariant-columns l = record {
  len : length l.decisions.items ≡ length l.yielded;
  decided : AreEach (λ k decision. (d : Candidates) → IsDecided (get_or l.fn.columns.items k d) decision) l.decisions.items;
}
