use Rattle.std.proofs.Common.{◌≡◌, take, true}
use Rattle.std.specs.List.{list_all}
use Rattle.csv.specs.Records.{fields_of}
use Rattle.bsi_input.specs.RowFiles.{is_named_once}
use Rattle.bsi_input.proofs.header.names_each_column_once.Given as goal

-- each of the columns so far is named once
abbrev pub invariant-columns : goal.invariant-columns
invariant-columns l = list_all (is_named_once (fields_of l.fn.header)) (take l.c l.fn.schema.columns) ≡ true
