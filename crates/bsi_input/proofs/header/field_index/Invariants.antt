use Rattle.std.proofs.Common.{◌≡◌, ◌+◌, drop}
use Rattle.csv.specs.Records.{fields_of}
use Rattle.bsi_input.specs.RowFiles.{field_index}
use Rattle.bsi_input.proofs.header.field_index.Given as goal

-- no field so far is the name
abbrev pub invariant-fields : goal.invariant-fields
invariant-fields l = field_index (fields_of l.fn.header) l.fn.name ≡ l.index + field_index (drop l.index (fields_of l.fn.header)) l.fn.name
