use Rattle.std.proofs.Common.{◌≡◌, ◌+◌, ◌≤◌, ◌++◌}
use Rattle.std.specs.Prelude.{take}
use Rattle.bsi_digits.specs.Blocks.{block_entries}
use Rattle.bsi_slices.proofs.column.Column.push_block_reserved.Given as goal

abbrev pub invariant-entries : goal.invariant-entries
invariant-entries g l = record {
  entries : g.Self.Column.entries l.self ≡ g.Self.Column.entries l.fn.self ++ take l.r (block_entries l.numbers l.not_null);
  form : g.Self.Column.form_of l.self ≡ g.Self.Column.form_of l.fn.self;
  room : g.Self.Column.room_of l.fn.self ≤ g.Self.Column.room_of l.self + l.r;
}
