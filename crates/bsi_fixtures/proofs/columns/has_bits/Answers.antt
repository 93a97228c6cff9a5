use Rattle.std.proofs.Common.{◌≡◌, length, false, refl, arith}
use Rattle.std.proofs.lemmas.List.{ext_get_or}
use Rattle.bsi_fixtures.proofs.columns.has_bits.Goals as goal

-- both are as long, and have the same bit at each place
pub returns : goal.returns
returns c =
    let bits = c.args.bits.now.bits in
    let expected = c.args.expected.now in
    let long : length bits ≡ length expected = omega (arith, c.len.ensures.len, c.if-len-expected.false) in
    let same : bits ≡ expected = ext_get_or false bits expected long (λ k within. c.loop-place.invariant k (omega (arith, within, long, c.loop-place-test.false))) in
    (λ _. same, λ _. refl)
