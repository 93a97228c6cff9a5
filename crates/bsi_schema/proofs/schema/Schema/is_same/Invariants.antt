use Rattle.std.proofs.Common.{◌≡◌, ◌<◌, ℕ}
use Rattle.bsi_schema.specs.Columns.{column_at}
use Rattle.bsi_schema.proofs.schema.Schema.is_same.Given as goal

-- the columns so far are the same
abbrev pub invariant-columns : goal.invariant-columns
invariant-columns l = (k : ℕ) → k < l.c → column_at l.self.columns k ≡ column_at l.other.columns k
