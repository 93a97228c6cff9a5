use Rattle.std.proofs.Common.{◌≤◌, length}
use Rattle.std.specs.Vec.{vec_capacity}
use Rattle.csv.specs.Records.{fields_of}
use Rattle.bsi_input.specs.Formats.{fields_at}
use Rattle.bsi_input.proofs.Layouts.{IsRead}
use Rattle.bsi_input.proofs.format.SchemaRowFormat.read_entries.Given as goal

-- the fields of the columns so far were read, and there is room for the others
abbrev pub invariant-columns : goal.invariant-columns
invariant-columns l = record {
  read : IsRead l.fn.self (fields_at l.fn.indexes (fields_of l.fn.fields)) (length l.yielded) l.entries.items;
  room : length l.fn.self.columns ≤ vec_capacity l.entries;
}
