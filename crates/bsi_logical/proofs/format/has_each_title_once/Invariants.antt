use Rattle.std.proofs.Common.{◌≡◌, take, true}
use Rattle.std.specs.List.{list_all}
use Rattle.csv.specs.Records.{fields_of}
use Rattle.bsi_logical.specs.HeaderTitles.{titles_of}
use Rattle.bsi_logical.specs.LogicalRows.{is_titled_once}
use Rattle.bsi_logical.proofs.format.has_each_title_once.Given as goal

-- each of the titles so far stands once
abbrev pub invariant-columns : goal.invariant-columns
invariant-columns l = list_all (is_titled_once (titles_of (fields_of l.fn.header))) (take l.c l.fn.logical.titles) ≡ true
