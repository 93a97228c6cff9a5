use Rattle.std.proofs.Common.{◌≡◌, ◌+◌, ◌≤◌, ◌++◌}
use Rattle.std.specs.Prelude.{take}
use Rattle.bsi_components.proofs.encoding.Encoding.push_block_reserved.Given as goal

abbrev pub invariant-digits : goal.invariant-digits
invariant-digits g l = record {
  digits : g.Self.Encoding.digits l.self ≡ g.Self.Encoding.digits l.fn.self ++ take l.digit-index l.block;
  base : g.Self.Encoding.base_of l.self ≡ g.Self.Encoding.base_of l.fn.self;
  room : g.Self.Encoding.room_of l.fn.self ≤ g.Self.Encoding.room_of l.self + l.digit-index;
}
