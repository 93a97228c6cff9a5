use Rattle.std.proofs.Common.{◌≡◌, ◌≤◌, length, map, take}
use Rattle.std.specs.Vec.{vec_capacity}
use Rattle.csv.specs.Records.{fields_of}
use Rattle.bsi_input.specs.RowFiles.{field_index}
use Rattle.bsi_logical.specs.HeaderTitles.{titles_of}
use Rattle.bsi_logical.proofs.format.title_indexes.Given as goal

-- the places of the titles so far, and room for those of the others
abbrev pub invariant-columns : goal.invariant-columns
invariant-columns l = record {
  indexes : l.indexes.items ≡ map (field_index (titles_of (fields_of l.fn.header))) (take l.c l.fn.logical.titles);
  room : length l.fn.logical.schema.columns ≤ vec_capacity l.indexes;
}
