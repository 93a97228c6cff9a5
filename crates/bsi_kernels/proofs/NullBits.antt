-- Bits that are counted where others are clear.
use Rattle.std.proofs.Common.{◌≡◌, ℕ, zero, suc, ◌+◌, ◌<◌, Bool, true, false, cond, List, [], ◌∷◌, length, get_or, refl, arith}
use Rattle.std.specs.Prelude.{count_by}
use Rattle.std.specs.Simd.Lanes.{zip2}
use Rattle.std.proofs.lemmas.List.Sums.{sum_by-cons}
use Rattle.bsi_bits.specs.BitList.{without}

pair_split : (x y : Bool) (xs ys : List Bool) → count_by (λ b. b) (zip2 without (x ∷ xs) (y ∷ ys)) ≡ cond (without x y) 1 0 + count_by (λ b. b) (zip2 without xs ys)
pair_split x y xs ys = sum_by-cons (λ b. cond b 1 0) (without x y) (zip2 without xs ys)

none_step : (x y : Bool) (xs ys : List Bool) → count_by (λ b. b) (zip2 without (x ∷ xs) (y ∷ ys)) ≡ 0
    → (count_by (λ b. b) (zip2 without xs ys) ≡ 0 → (r : ℕ) → get_or ys r false ≡ false → get_or xs r false ≡ false)
    → (r : ℕ) → get_or (y ∷ ys) r false ≡ false → get_or (x ∷ xs) r false ≡ false
none_step x y xs ys none rest (suc r) off = rest (omega (arith, none, pair_split x y xs ys)) r off
none_step false y xs ys none rest zero off = refl
none_step true true xs ys none rest zero off = off
none_step true false xs ys none rest zero off = absurd (omega (arith, none, pair_split true false xs ys))

-- where none is counted, each that is set is set in the other too
pub none_without : (xs ys : List Bool) → length xs ≡ length ys → count_by (λ b. b) (zip2 without xs ys) ≡ 0 → (r : ℕ) → get_or ys r false ≡ false → get_or xs r false ≡ false
none_without [] ys same none r off = refl
none_without (x ∷ xs) [] same none r off = absurd (omega arith)
none_without (x ∷ xs) (y ∷ ys) same none r off = none_step x y xs ys none (none_without xs ys (omega arith)) r off

-- where one is counted, it is set and not set in the other
pub one_without : (xs ys : List Bool) → length xs ≡ length ys → 0 < count_by (λ b. b) (zip2 without xs ys) → (r : ℕ) × (r < length ys) × (get_or ys r false ≡ false) × (get_or xs r false ≡ true)
one_without [] ys same some = absurd (omega arith)
one_without (x ∷ xs) [] same some = absurd (omega arith)
one_without (true ∷ xs) (false ∷ ys) same some = (0, omega arith, refl, refl)
one_without (true ∷ xs) (true ∷ ys) same some =
    let rest = one_without xs ys (omega arith) (omega (arith, some, pair_split true true xs ys)) in
    (suc rest.0, omega (arith, rest.1), rest.2, rest.3)
one_without (false ∷ xs) (y ∷ ys) same some =
    let rest = one_without xs ys (omega arith) (omega (arith, some, pair_split false y xs ys)) in
    (suc rest.0, omega (arith, rest.1), rest.2, rest.3)
