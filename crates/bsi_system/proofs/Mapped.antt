-- A result whose refusal was replaced by another one.
use Rattle.std.proofs.Common.{◌≡◌, subst}
use Rattle.std.specs.Prelude.{IfOk, IsErrAnd, MatchResult, Result, Ok, Err}

-- where it is no refusal, the call was not refused
pub mapped_ok : {T E F : Type 0} (A : T → Type 0) (P : E → F → Type 0) (r : Result T E) (m : Result T F) (x : T)
    → MatchResult r (λ x. m ≡ Ok x) (λ e. IsErrAnd m (P e)) → IfOk r A → m ≡ Ok x → A x
mapped_ok A P (Ok y) m x is ok popped =
    let same : y ≡ x = cc (is, popped) in
    subst A same ok
mapped_ok A P (Err e) (Ok y) x is ok popped = absurd is
mapped_ok A P (Err e) (Err f) x is ok popped = cc popped
