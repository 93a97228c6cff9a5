use Rattle.std.proofs.Common.{ap₂, ◌∙◌, arith}
use Rattle.std.specs.Prelude.{◌||◌}
use Rattle.std.specs.Simd.Lanes.{zip2}
use Rattle.bsi_components.proofs.EqualityReads.{among_more}
use Rattle.bsi_components.proofs.equality.EqualityComponent.among_into.Goals as goal

pub digits-preserved : goal.digits-preserved
digits-preserved c = record {
  bits =
      c.or_with.ensures.bits ∙ ap₂ (zip2 ◌||◌) c.digits.invariant.bits c.bitmap-in-digits.ensures
      ∙ among_more c.args.from c.digits.j c.args.self.now.digits (omega arith);
  room = c.or_with.ensures.room ∙ c.digits.invariant.room;
}
