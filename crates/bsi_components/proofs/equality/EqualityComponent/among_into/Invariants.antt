use Rattle.std.proofs.Common.{◌≡◌, map}
use Rattle.bsi_components.specs.Equality.{is_among}
use Rattle.bsi_components.proofs.equality.EqualityComponent.among_into.Given as goal

abbrev pub invariant-digits : goal.invariant-digits
invariant-digits l = record {
  bits : l.out.bits ≡ map (is_among l.from l.j) l.self.digits;
  room : l.out.room ≡ l.fn.out.room;
}
