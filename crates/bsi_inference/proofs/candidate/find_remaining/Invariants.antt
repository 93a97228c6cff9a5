use Rattle.std.proofs.Common.{◌≡◌, drop}
use Rattle.bsi_inference.specs.Candidates.{first_remaining}
use Rattle.bsi_inference.proofs.candidate.find_remaining.Given as goal

abbrev pub invariant-candidates : goal.invariant-candidates
invariant-candidates l = first_remaining (drop l.candidate-index l.candidates) ≡ first_remaining l.candidates
