use Rattle.std.proofs.Common.{◌≡◌, ◌-◌, ◌≤◌, drop, length}
use Rattle.std.specs.Prelude.{vec_capacity}
use Rattle.csv.specs.Records.{fields_of}
use Rattle.bsi_syntax.specs.Numbers.{values_in}
use Rattle.bsi_syntax.proofs.Values.{behind}
use Rattle.bsi_syntax.proofs.records.read_row.Given as goal

-- the fields so far are the entries, and there is room for the others
abbrev pub invariant-values : goal.invariant-values
invariant-values l = record {
  read : values_in l.schema.signed (drop l.from (fields_of l.fields)) ≡ behind l.values.items (values_in l.schema.signed (drop l.index (fields_of l.fields)));
  count : length l.values.items ≡ l.index - l.from;
  room : length (fields_of l.fields) - l.from ≤ vec_capacity l.values;
}
