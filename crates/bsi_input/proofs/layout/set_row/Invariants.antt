use Rattle.std.proofs.Common.{◌≡◌, ◌≤◌, length, take}
use Rattle.std.specs.Vec.{vec_capacity}
use Rattle.bsi_input.proofs.layout.set_row.Given as goal

-- the entries so far, and room for the others
abbrev pub invariant-entries : goal.invariant-entries
invariant-entries l = record {
  values : l.values.items ≡ take l.entry-index l.entries;
  room : length l.entries ≤ vec_capacity l.values;
}
