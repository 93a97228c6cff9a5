-- Products of lists, and of their first parts.
use Rattle.std.proofs.Common.{◌≡◌, ℕ, zero, suc, ◌+◌, ◌*◌, ◌^◌, ◌<◌, ◌≤◌, List, [], ◌∷◌, ◌++◌, length, take, get_or, reverse, replicate, refl, ◌∙◌, ap, arith}
use Rattle.std.proofs.lemmas.List.{reverse-append}
use Rattle.std.proofs.lemmas.Nat.{mul-le}
use Rattle.bsi_digits.specs.Digits.{product}

pub product-append : (xs ys : List ℕ) → product (xs ++ ys) ≡ product xs * product ys
product-append [] ys = omega arith
product-append (x ∷ xs) ys = ap (λ n. x * n) (product-append xs ys) ∙ omega arith

-- the order of the factors changes nothing
pub product-reverse : (xs : List ℕ) → product (reverse xs) ≡ product xs
product-reverse [] = refl
product-reverse (x ∷ xs) =
    let turned : product xs * (x * 1) ≡ x * product xs = omega arith in
    ap product (reverse-append (x ∷ []) xs) ∙ product-append (reverse xs) (x ∷ []) ∙
    ap (λ n. n * (x * 1)) (product-reverse xs) ∙ turned

-- one factor more
pub product-take_more : (bs : List ℕ) (i : ℕ) → i < length bs → product (take (i + 1) bs) ≡ product (take i bs) * get_or bs i 0
product-take_more [] i h = absurd (omega arith)
product-take_more (b ∷ bs) zero h = omega arith
product-take_more (b ∷ bs) (suc i) h =
    let next : suc i + 1 ≡ suc (i + 1) = omega arith in
    ap (λ n. product (take n (b ∷ bs))) next ∙ ap (λ n. b * n) (product-take_more bs i (omega arith)) ∙ omega arith

-- a product of numbers that are at least 1
pub product_pos : (bs : List ℕ) → ((i : ℕ) → i < length bs → 1 ≤ get_or bs i 0) → 1 ≤ product bs
product_pos [] each = omega arith
product_pos (b ∷ bs) each =
    mul-le 1 1 b (product bs) (each 0 (omega arith)) (product_pos bs (λ i h. each (suc i) (omega arith)))

-- the first factors alone
pub product-take_pos : (bs : List ℕ) (i : ℕ) → ((j : ℕ) → j < length bs → 1 ≤ get_or bs j 0) → 1 ≤ product (take i bs)
product-take_pos bs zero each = omega arith
product-take_pos [] (suc i) each = omega arith
product-take_pos (b ∷ bs) (suc i) each =
    mul-le 1 1 b (product (take i bs)) (each 0 (omega arith)) (product-take_pos bs i (λ j h. each (suc j) (omega arith)))

-- the first factors multiply to no more than all
pub product-take_le : (bs : List ℕ) (i : ℕ) → ((j : ℕ) → j < length bs → 1 ≤ get_or bs j 0) → product (take i bs) ≤ product bs
product-take_le bs zero each = product_pos bs each
product-take_le [] (suc i) each = omega arith
product-take_le (b ∷ bs) (suc i) each =
    mul-le b (product (take i bs)) b (product bs) (omega arith) (product-take_le bs i (λ j h. each (suc j) (omega arith)))

pub product-replicate : (n : ℕ) → product (replicate n 2) ≡ 2 ^ n
product-replicate zero = refl
product-replicate (suc n) = omega (arith, product-replicate n)
