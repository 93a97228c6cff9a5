-- Facts that hold together: each follows from the other.
use Rattle.std.proofs.Common.{◌≡◌, ◌↔◌, sym, subst}

-- what is said of one of two equal things holds of the other
pub along : {X : Type 0} (P : X → Type 0) {x y : X} → x ≡ y → P x ↔ P y
along P e = (subst P e, subst P (sym e))

pub then : {A B C : Type 0} → (A ↔ B) → (B ↔ C) → (A ↔ C)
then one two = (λ a. two.0 (one.0 a), λ c. one.1 (two.1 c))

pub alike : {A : Type 0} → A ↔ A
alike = (λ a. a, λ a. a)

-- and so do facts of which neither holds
pub neither_holds : {A B : Type 0} → (A → ⊥) → (B → ⊥) → (A ↔ B)
neither_holds a b = (λ is. absurd (a is), λ is. absurd (b is))

-- pairs, part by part
pub pairs : {A B C D : Type 0} → (A ↔ B) → (C ↔ D) → (A × C) ↔ (B × D)
pairs one two = (λ is. (one.0 is.0, two.0 is.1), λ is. (one.1 is.0, two.1 is.1))

-- a part that holds on both sides is no matter
pub beside : {A B C D : Type 0} → A → B → (C ↔ D) → (A × C) ↔ (B × D)
beside a b both = (λ is. (b, both.0 is.1), λ is. (a, both.1 is.1))
