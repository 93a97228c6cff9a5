use Rattle.std.proofs.Common.{ℕ, ◌<◌, get_or}
use Rattle.bsi_inference.specs.declared.decision.Column.{Column}
use Rattle.bsi_survey.specs.Made.{AddsNulls, HasNullsOf}
use Rattle.bsi_survey.proofs.making.add_nulls.Given as goal

-- the null words of the columns so far are nulls
abbrev pub invariant-columns : goal.invariant-columns
invariant-columns l = record {
  adds : AddsNulls l.initial.logical l.logical;
  nulls : (k : ℕ) (d : Column) → k < l.column-index → HasNullsOf l.logical.nulls (get_or l.columns k d);
}
