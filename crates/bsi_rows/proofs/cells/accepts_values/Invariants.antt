use Rattle.std.proofs.Common.{◌≡◌, ℕ, ◌<◌, true}
use Rattle.bsi_digits.specs.Blocks.{value_entry}
use Rattle.bsi_schema.specs.Columns.{is_between}
use Rattle.bsi_rows.proofs.cells.accepts_values.Given as goal

-- each entry so far is taken
abbrev pub invariant-rows : goal.invariant-rows
invariant-rows l = (k : ℕ) → k < l.r → is_between l.limits.least l.limits.size (value_entry l.values l.not_null k) ≡ true
