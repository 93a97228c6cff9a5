use Rattle.std.proofs.Common.{◌≡◌, ◌+◌, ◌≤◌, false, drop}
use Rattle.bsi_survey.specs.Delimiters.{bare_count}
use Rattle.bsi_survey.proofs.delimiter.count_bare.Given as goal

-- what was counted, and what stands in the rest
abbrev pub invariant-bytes : goal.invariant-bytes
invariant-bytes l = record {
  few : l.count ≤ l.each-index;
  rest : l.count + bare_count l.byte l.quoted (drop l.each-index l.text) ≡ bare_count l.byte false l.text;
}
