use Rattle.std.proofs.Common.{◌-◌, ◌≤◌}
use Rattle.csv.specs.Reading.{source_of}
use Rattle.bsi_input.specs.Formats.{max_records}
use Rattle.bsi_input.specs.Sources.{IsPlainReader}
use Rattle.bsi_input.specs.Texts.{ForText}
use Rattle.bsi_check.specs.Reasons.{AddsFirstReasons}
use Rattle.bsi_check.proofs.Asking.{AreAsks}
use Rattle.bsi_check.proofs.asks.count_asks.Given as goal

-- the asks so far were counted, and the bad ones reported
abbrev pub invariant-records : goal.invariant-records
invariant-records g l = record {
  asked : ForText (source_of g.A.Read.remaining l.initial.input) (λ bytes.
      AreAsks l.schema bytes (g.A.Read.remaining) l.input l.records l.bad);
  plain : IsPlainReader l.input;
  few : l.records ≤ max_records;
  fewer : l.bad ≤ l.records;
  reported : AddsFirstReasons l.path l.bad l.initial.reasons.items l.reasons.items;
}

abbrev pub decreases-records : goal.decreases-records
decreases-records g l = max_records - l.records
