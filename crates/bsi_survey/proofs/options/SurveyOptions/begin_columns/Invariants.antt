use Rattle.std.proofs.Common.{◌≡◌, length}
use Rattle.bsi_survey.specs.Looking.{start_at, IsLookedFor, IsNewBy}
use Rattle.bsi_survey.proofs.Lists.{AreEach}
use Rattle.bsi_survey.proofs.options.SurveyOptions.begin_columns.Given as goal

-- the columns so far are new, and look for what was said
abbrev pub invariant-columns : goal.invariant-columns
invariant-columns l = record {
  len : length l.columns.items ≡ l.c;
  each : AreEach (λ k column. IsNewBy l.self.dialect.point l.self.order (start_at l.self.starts.items k) column
      × IsLookedFor l.self.dialect.point (start_at l.self.starts.items k) column) l.columns.items;
}
