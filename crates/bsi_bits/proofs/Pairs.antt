-- Lists of pairs, part by part.
use Rattle.std.proofs.Common.{◌≡◌, ℕ, List, [], ◌∷◌, length, take, drop, map, zero, suc, refl, ap, ◌∙◌, arith}
use Rattle.std.specs.Simd.Lanes.{zip2, chunk}

module _ {X Y Z : Type 0} (f : X → Y → Z) where
  -- the first words of the pairs are those of the first words
  pub take-zip2 : (n : ℕ) (xs : List X) (ys : List Y) → take n (zip2 f xs ys) ≡ zip2 f (take n xs) (take n ys)
  take-zip2 zero xs ys = refl
  take-zip2 (suc n) [] ys = refl
  take-zip2 (suc n) (x ∷ xs) [] = refl
  take-zip2 (suc n) (x ∷ xs) (y ∷ ys) = ap (λ zs. f x y ∷ zs) (take-zip2 n xs ys)

  pub drop-zip2 : (n : ℕ) (xs : List X) (ys : List Y) → length xs ≡ length ys → drop n (zip2 f xs ys) ≡ zip2 f (drop n xs) (drop n ys)
  drop-zip2 zero xs ys same = refl
  drop-zip2 (suc n) [] ys same = refl
  drop-zip2 (suc n) (x ∷ xs) [] same = absurd (omega arith)
  drop-zip2 (suc n) (x ∷ xs) (y ∷ ys) same = drop-zip2 n xs ys (omega arith)

  -- a block of the pairs is made of the blocks of both
  pub chunk-zip2 : (i n : ℕ) (xs : List X) (ys : List Y) → length xs ≡ length ys → chunk i n (zip2 f xs ys) ≡ zip2 f (chunk i n xs) (chunk i n ys)
  chunk-zip2 i n xs ys same = ap (take n) (drop-zip2 i xs ys same) ∙ take-zip2 n (drop i xs) (drop i ys)

-- a function of the second of each pair may be taken first
pub zip2-map_right : {X Y Z V : Type 0} (f : X → Y → Z) (g : V → Y) (xs : List X) (vs : List V) → zip2 f xs (map g vs) ≡ zip2 (λ x v. f x (g v)) xs vs
zip2-map_right f g [] vs = refl
zip2-map_right f g (x ∷ xs) [] = refl
zip2-map_right f g (x ∷ xs) (v ∷ vs) = ap (λ zs. f x (g v) ∷ zs) (zip2-map_right f g xs vs)
