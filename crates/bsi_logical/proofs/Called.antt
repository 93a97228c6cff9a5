-- What columns are called.
use Rattle.std.proofs.Common.{◌≡◌, ℕ, zero, suc, ◌<◌, Bool, List, [], ◌∷◌, ◌||◌, length, get_or, Option, Some, None, map, refl, ap, arith, sym}
use Rattle.std.specs.List.{list_any}
use Rattle.std.specs.Option.{option_or}

-- a test of what is seen of each
pub any-map : {X Y : Type 0} (f : X → Y) (p : Y → Bool) (xs : List X) → list_any (λ x. p (f x)) xs ≡ list_any p (map f xs)
any-map f p [] = refl
any-map f p (x ∷ xs) = ap (λ b. p (f x) || b) (any-map f p xs)

-- what is found first
pub or_first : {T : Type 0} (found : Option T) (other : Option T) (x : T) → found ≡ Some x → option_or found other ≡ Some x
or_first found other x is = ap (λ o. option_or o other) is

pub or_second : {T : Type 0} (found : Option T) (other : Option T) → found ≡ None → option_or found other ≡ other
or_second found other is = ap (λ o. option_or o other) is

-- what is seen of each
pub mapped_at : {X Y : Type 0} (f : X → Y) (xs : List X) (k : ℕ) (x : X) (d : Y) → k < length xs → x ≡ get_or xs k x → get_or (map f xs) k d ≡ f x
mapped_at f [] k x d within is = absurd (omega arith)
mapped_at f (y ∷ ys) zero x d within is = ap f (sym is)
mapped_at f (y ∷ ys) (suc k) x d within is = mapped_at f ys k x d (omega arith) is
