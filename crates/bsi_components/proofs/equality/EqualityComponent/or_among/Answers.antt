use Rattle.std.proofs.Common.{◌≡◌, ap, ◌∙◌, arith}
use Rattle.std.specs.Prelude.{◌||◌, slice_index, ◌+◌, ◌*◌}
use Rattle.bsi_bits.specs.Packed.{bit_of}
use Rattle.bsi_components.specs.Equality.{is_among}
use Rattle.bsi_components.proofs.equality.EqualityComponent.or_among.Goals as goal

-- the loop has come to the last digit
pub returns-clause-bits : goal.returns-clause-bits
returns-clause-bits c p below within =
    let v = slice_index c.args.self.now.digits (64 * c.args.at + p) in
    let last : c.digits.j ≡ c.args.to = omega (arith, c.digits.auto, c.requires.within) in
    c.digits.invariant p below within ∙ ap (λ j. bit_of c.args.span.now p || is_among c.args.from j v) last
