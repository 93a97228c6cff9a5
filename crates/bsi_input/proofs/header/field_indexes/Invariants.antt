use Rattle.std.proofs.Common.{◌≡◌, ◌≤◌, length, map, take}
use Rattle.std.specs.Vec.{vec_capacity}
use Rattle.csv.specs.Records.{fields_of}
use Rattle.bsi_input.specs.RowFiles.{field_index}
use Rattle.bsi_input.proofs.header.field_indexes.Given as goal

-- the places of the columns so far, and room for those of the others
abbrev pub invariant-columns : goal.invariant-columns
invariant-columns l = record {
  indexes : l.indexes.items ≡ map (λ column. field_index (fields_of l.fn.header) column.name) (take l.c l.fn.schema.columns);
  room : length l.fn.schema.columns ≤ vec_capacity l.indexes;
}
