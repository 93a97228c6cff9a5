use Rattle.std.proofs.Common.{◌≡◌, ◌≤◌, length, take}
use Rattle.std.specs.Vec.{vec_capacity}
use Rattle.bsi_storage.proofs.chosen_schema.list_bases.Given as goal

-- the bases so far, and room for all
abbrev pub invariant-bases : goal.invariant-bases
invariant-bases l = record {
  items : l.list.items ≡ take l.i l.bases;
  room : length l.bases ≤ vec_capacity l.list;
}
