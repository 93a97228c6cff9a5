use Rattle.std.proofs.Common.{◌≡◌, take}
use Rattle.csv.specs.Records.{fields_of}
use Rattle.bsi_syntax.specs.Reading.{texts}
use Rattle.bsi_syntax.proofs.leading_fields.lend_fields.Given as goal

-- the first fields are lent
abbrev pub invariant-fields : goal.invariant-fields
invariant-fields l = texts l.lent.items ≡ take l.index (fields_of l.fields)
