use Rattle.std.proofs.Common.{◌≡◌, ◌++◌, List, length}
use Rattle.bsi_inference.specs.declared.candidates.Candidates.{Candidates}
use Rattle.bsi_survey.proofs.Growing.{AreBehind, IsJoinedWith}
use Rattle.bsi_survey.proofs.joining.join_each.Given as goal

-- the columns behind those of the others that are left have joined theirs
abbrev pub invariant-columns : goal.invariant-columns
invariant-columns l =
    (behind : List Candidates) × (l.fn.others.items ≡ l.others.items ++ behind)
    × AreBehind (IsJoinedWith l.fn.others.items) l.initial.columns l.columns (length l.others.items)

abbrev pub decreases-columns : goal.decreases-columns
decreases-columns l = length l.others.items
