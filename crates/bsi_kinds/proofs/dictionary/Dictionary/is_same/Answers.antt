use Rattle.std.proofs.Common.{◌≡◌, List, ℕ, [], length, arith, ext_get_or, refl}
use Rattle.bsi_kinds.proofs.dictionary.Dictionary.is_same.Goals as goal

-- no text differs
pub returns : goal.returns
returns c =
    let a : List (List ℕ) = c.args.self.now in
    let b : List (List ℕ) = c.args.other.now in
    let long : length a ≡ length b = omega (arith, c.if-len.false, c.len.ensures.len, c.len-2.ensures.len) in
    let same : a ≡ b = ext_get_or [] a b long (λ k within. c.texts.invariant k (omega (arith, within, c.texts-test.false, c.len-number-end.ensures.len))) in
    (λ yes. same, λ is. refl)
