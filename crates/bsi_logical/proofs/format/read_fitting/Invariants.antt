use Rattle.std.proofs.Common.{◌≤◌, length}
use Rattle.std.specs.Vec.{vec_capacity}
use Rattle.csv.specs.Records.{fields_of}
use Rattle.bsi_input.specs.Formats.{fields_at}
use Rattle.bsi_logical.proofs.Fields.{IsRead}
use Rattle.bsi_logical.proofs.format.read_fitting.Given as goal

-- the fields of the columns so far were read, and there is room for the others
abbrev pub invariant-columns : goal.invariant-columns
invariant-columns l = record {
  read : IsRead l.fn.logical (fields_at l.fn.indexes (fields_of l.fn.fields)) l.c l.entries.items;
  few : l.c ≤ length l.fn.logical.schema.columns;
  room : length l.fn.logical.schema.columns ≤ vec_capacity l.entries;
}
