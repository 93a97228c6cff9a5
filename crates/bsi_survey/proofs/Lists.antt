-- Lists whose elements have a property of their index, and one element more.
use Rattle.std.proofs.Common.{◌≡◌, inl, inr, ℕ, zero, suc, ◌+◌, ◌<◌, List, [], ◌∷◌, ◌++◌, length, get_or, map, take, drop, append_assoc, append-nil, arith, sym, subst, ap, ◌∙◌}
use Rattle.std.proofs.Math.ListN.{drop_of_length-le}
use Rattle.std.proofs.Math.Seq.{get_or-append_seam}
use Rattle.std.proofs.lemmas.Bool.{cases_eq}
use Rattle.std.proofs.lemmas.List.{get_or_append_left, get_or_default, length-append, take_all}

-- each element has the property of its index
pub record AreEach {X : Type 0} (P : ℕ → X → Type 0) (xs : List X) : Type 0 where
  pub each : (k : ℕ) (d : X) → k < length xs → P k (get_or xs k d)

pub each_none : {X : Type 0} (P : ℕ → X → Type 0) → AreEach P []
each_none P = record { each = λ k d low. absurd (omega (arith, low)) }

pub each_more : {X : Type 0} (P : ℕ → X → Type 0) (xs : List X) (x : X) → AreEach P xs → P (length xs) x → AreEach P (xs ++ x ∷ [])
each_more {X} P xs x before here = record {
  each = λ k d low. elim (cases_eq k (length xs)) [
    | inl same ↦ subst (λ (j : ℕ). P j (get_or (xs ++ x ∷ []) j d)) (sym same) (subst (P (length xs)) (sym (get_or-append_seam xs x [] d)) here)
    | inr other ↦ (
        let within : k < length xs = omega (arith, low, length-append {A = X} xs (x ∷ [])) in
        subst (P k) (sym (get_or_append_left xs (x ∷ []) d k within)) (before.each k d within))
  ];
}

-- the element that was read is there, whatever would be read past the end
pub read_at : {X : Type 0} (xs : List X) (k : ℕ) (x : X) → k < length xs → x ≡ get_or xs k x → (d : X) → get_or xs k d ≡ x
read_at xs k x within is d = get_or_default xs k d x within ∙ sym is

-- the last of some elements is taken off, behind which others stood
module _ {X : Type 0} (all items rest behind : List X) (x : X) (is : all ≡ items ++ behind) (popped : items ≡ rest ++ x ∷ []) where
  pub popped_all : all ≡ rest ++ x ∷ behind
  popped_all = is ∙ ap (λ (ys : List X). ys ++ behind) popped ∙ append_assoc rest (x ∷ []) behind

  pub popped_at : (d : X) → get_or all (length rest) d ≡ x
  popped_at d = ap (λ (ys : List X). get_or ys (length rest) d) popped_all ∙ get_or-append_seam rest x behind d

  pub popped_len : length all ≡ length rest + (length behind + 1)
  popped_len = ap length popped_all ∙ length-append {A = X} rest (x ∷ behind) ∙ omega arith

-- what is seen of each
pub mapped_at : {X Y : Type 0} (f : X → Y) (xs : List X) (k : ℕ) (x : X) (d : Y) → k < length xs → x ≡ get_or xs k x → get_or (map f xs) k d ≡ f x
mapped_at f [] k x d within is = absurd (omega arith)
mapped_at f (y ∷ ys) zero x d within is = ap f (sym is)
mapped_at f (y ∷ ys) (suc k) x d within is = mapped_at f ys k x d (omega arith) is

-- a list is written back over one as long
pub written : {X : Type 0} (old new : List X) (n : ℕ) → n ≡ length old → length new ≡ length old → take n (new ++ drop (length new) old) ≡ new
written {X} old new n many long =
    let none : drop (length new) old ≡ [] = drop_of_length-le old (omega (arith, long)) in
    ap (λ (ys : List X). take n (new ++ ys)) none ∙ ap (take n) (append-nil new) ∙ take_all n new (omega (arith, many, long))
