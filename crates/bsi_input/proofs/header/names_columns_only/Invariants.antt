use Rattle.std.proofs.Common.{◌≡◌, take, true}
use Rattle.std.specs.List.{list_all}
use Rattle.csv.specs.Records.{fields_of}
use Rattle.bsi_input.specs.RowFiles.{is_known}
use Rattle.bsi_input.proofs.header.names_columns_only.Given as goal

-- each of the fields so far is the name of a column
abbrev pub invariant-fields : goal.invariant-fields
invariant-fields l = list_all (is_known l.fn.schema) (take l.index (fields_of l.fn.header)) ≡ true
