-- What is so of the value or of the fault of a call, and what follows.
use Rattle.std.proofs.Common.{◌≡◌, false, if◌then◌else◌, List, [], ◌∷◌, ◌++◌, Result, Ok, Err, ap, length, refl, arith, ℕ, Option, Some, None, IfSome, option_map}
use Rattle.std.specs.Prelude.{IfErr, IfOk, IsErrAnd, OnOk}
use Rattle.std.specs.Result.{is_err, is_ok}
use Rattle.csv.specs.Reading.{strip_bom}
use Rattle.bsi_input.specs.Texts.{ForText}
use Rattle.bsi_syntax.specs.Bytes.{KnownBytes}

-- a list with no element
pub emptied : {X : Type 0} (xs : List X) → length xs ≡ 0 → xs ≡ []
emptied [] none = refl
emptied (x ∷ xs) none = absurd (omega arith)

-- a push that was done
pub done : {X T E : Type 0} (r : Result T E) (old : List X) (x : X) (new : List X) → new ≡ (if is_ok r then old ++ x ∷ [] else old) → is_err r ≡ false
    → new ≡ old ++ x ∷ []
done (Ok y) old x new is fine = is
done (Err e) old x new is fine = cc

-- what is so of a fault, and what follows where a call succeeds or fails
pub on_ok : {T E P Q : Type 0} (r : Result T E) → (P → Q) → OnOk r P → OnOk r Q
on_ok (Ok x) then_so p = then_so p
on_ok (Err e) then_so p = tt

pub so_ok : {T E P : Type 0} (r : Result T E) → P → OnOk r P
so_ok (Ok x) p = p
so_ok (Err e) p = tt

pub if_err : {T E : Type 0} {P Q : E → Type 0} (r : Result T E) → ((e : E) → P e → Q e) → IfErr r P → IfErr r Q
if_err (Ok x) follows p = tt
if_err (Err e) follows p = follows e p

pub if_ok : {T E : Type 0} {P Q : T → Type 0} (r : Result T E) → ((x : T) → P x → Q x) → IfOk r P → IfOk r Q
if_ok (Ok x) follows p = follows x p
if_ok (Err e) follows p = tt

-- of a fault that was passed on
pub passed_on : {T E : Type 0} {P Q : E → Type 0} (r : Result T E) → ((e : E) → P e → Q e) → IsErrAnd r P → IfErr r Q
passed_on (Ok x) follows p = tt
passed_on (Err e) follows p = follows e p

-- what follows of one fault
pub if_told : {T E P : Type 0} {e : E} (r : Result T E) → (r ≡ Err e → P) → IfErr r (λ fault. fault ≡ e → P)
if_told (Ok x) follows = tt
if_told (Err fault) follows = λ same. follows (ap Err same)

pub if_err_both : {T E : Type 0} {P P' Q : E → Type 0} (r : Result T E) → ((e : E) → P e → P' e → Q e) → IfErr r P → IfErr r P' → IfErr r Q
if_err_both (Ok x) follows p q = tt
if_err_both (Err e) follows p q = follows e p q

-- what is so of each value is so of one that is there, and what follows
pub if_some : {X : Type 0} (P : X → Type 0) (o : Option X) → ((x : X) → P x) → IfSome o P
if_some P None each = tt
if_some P (Some x) each = each x

-- of the text that a reader is about to read
pub from_known : (known source : KnownBytes) (P : List ℕ → Type 0) → source ≡ option_map strip_bom known → ForText source P → IfSome known P
from_known None source P is so = tt
from_known (Some bytes) source P is so = so bytes is

pub if_some_follows : {X : Type 0} {P Q : X → Type 0} (o : Option X) → IfSome o P → ((x : X) → P x → Q x) → IfSome o Q
if_some_follows None p follows = tt
if_some_follows (Some x) p follows = follows x p
