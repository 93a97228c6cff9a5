use Rattle.std.proofs.Common.{◌≡◌, ◌+◌, drop}
use Rattle.csv.specs.Records.{fields_of}
use Rattle.bsi_input.specs.RowFiles.{field_index}
use Rattle.bsi_logical.specs.HeaderTitles.{titles_of}
use Rattle.bsi_logical.proofs.titles.title_index.Given as goal

-- no title so far is this one
abbrev pub invariant-fields : goal.invariant-fields
invariant-fields l =
    let titles = titles_of (fields_of l.fn.header) in
    field_index titles l.fn.title ≡ l.index + field_index (drop l.index titles) l.fn.title
