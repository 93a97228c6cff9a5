use Rattle.std.proofs.Common.{◌≡◌, ◌<◌, ◌≤◌, ◌++◌, ℕ, List, length, get_or}
use Rattle.bsi_inference.specs.declared.decision.Column.{Column}
use Rattle.bsi_logical.specs.Logical.{kind_of}
use Rattle.bsi_survey.proofs.making.set_kinds.Given as goal

-- the columns behind those that are left have their kinds, and nothing else is changed
abbrev pub invariant-columns : goal.invariant-columns
invariant-columns l =
    (behind : List Column) × (l.fn.columns.items ≡ l.columns.items ++ behind)
    × (l.logical ≡ record l.initial.logical { kinds = l.logical.kinds })
    × (length l.logical.kinds ≡ length l.fn.columns.items)
    × ((k : ℕ) (d : Column) → length l.columns.items ≤ k → k < length l.fn.columns.items → kind_of l.logical k ≡ (get_or l.fn.columns.items k d).kind)

abbrev pub decreases-columns : goal.decreases-columns
decreases-columns l = length l.columns.items
