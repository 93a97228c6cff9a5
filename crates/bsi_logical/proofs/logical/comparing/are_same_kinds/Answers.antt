use Rattle.std.proofs.Common.{◌≡◌, length, arith, ext_get_or, refl}
use Rattle.bsi_kinds.specs.declared.kind.Kind.TheVariants.{Decimal}
use Rattle.bsi_logical.proofs.logical.comparing.are_same_kinds.Goals as goal

-- no kind differs
pub returns : goal.returns
returns c =
    let long : length c.args.first.now ≡ length c.args.second.now = omega (arith, c.if-first-second.false) in
    let same : c.args.first.now ≡ c.args.second.now =
    ext_get_or (Decimal 0) c.args.first.now c.args.second.now long (λ k within. c.kinds.invariant k (omega (arith, within, c.kinds-test.false))) in
    (λ yes. same, λ is. refl)
