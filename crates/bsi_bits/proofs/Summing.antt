-- Sums over the first items of a list, which grow by a block or by one item.
use Rattle.std.proofs.Common.{◌≡◌, ℕ, ◌+◌, ◌*◌, ◌<◌, ◌≤◌, List, [], ◌∷◌, ◌++◌, length, take, drop, get_or, refl, ap, sym, ◌∙◌, arith, length-drop, get_or-drop}
use Rattle.std.specs.Prelude.{sum_by}
use Rattle.std.specs.Simd.Lanes.{chunk}
use Rattle.std.proofs.Math.Seq.{take-add}
use Rattle.std.proofs.lemmas.List.{take_more, take_all}
use Rattle.std.proofs.lemmas.List.Sums.{sum_by-append, sum_by_push, sum_by_more}

module _ (g : ℕ → ℕ) (xs : List ℕ) (i total : ℕ) (summed : total ≡ sum_by g (take i xs)) where
  -- a block of n items more
  pub summed_block : (n m more : ℕ) → m ≡ i + n → more ≡ sum_by g (chunk i n xs) → total + more ≡ sum_by g (take m xs)
  summed_block n m more next block =
      ap (λ t. t + more) summed ∙ ap (λ t. sum_by g (take i xs) + t) block ∙ sym (sum_by-append g (take i xs) (chunk i n xs))
      ∙ ap (sum_by g) (sym (take-add i n xs)) ∙ ap (λ k. sum_by g (take k xs)) (sym next)

  -- one item more
  pub summed_word : (x : ℕ) → i < length xs → x ≡ get_or xs i 0 → total + g x ≡ sum_by g (take (i + 1) xs)
  summed_word x within is =
      ap (λ t. t + g x) summed ∙ sym (sum_by_push g (take i xs) x) ∙ ap (λ y. sum_by g (take i xs ++ y ∷ [])) is
      ∙ ap (sum_by g) (sym (take_more xs i 0 within))

  -- no item is left
  pub summed_all : length xs ≤ i → total ≡ sum_by g xs
  summed_all past = summed ∙ ap (sum_by g) (take_all i xs past)

-- a block that grows by one item
pub sum_block_more : (g : ℕ → ℕ) (xs : List ℕ) (at k : ℕ) → at + k < length xs → sum_by g (chunk at (k + 1) xs) ≡ sum_by g (chunk at k xs) + g (get_or xs (at + k) 0)
sum_block_more g xs at k within =
    let inside : k < length (drop at xs) = omega (arith, length-drop at xs) in
    sum_by_more g (drop at xs) k 0 inside ∙ ap (λ x. sum_by g (chunk at k xs) + g x) (get_or-drop at xs k 0)

-- the sums over the first k items of each quarter, of q items
abbrev pub quarters : (ℕ → ℕ) → List ℕ → ℕ → ℕ → ℕ
quarters g xs q k = sum_by g (chunk 0 k xs) + sum_by g (chunk q k xs) + sum_by g (chunk (2 * q) k xs) + sum_by g (chunk (3 * q) k xs)

module _ (g : ℕ → ℕ) (xs : List ℕ) (q : ℕ) (within : 4 * q ≤ length xs) where
  -- one item more of each
  pub quarters_more : (k : ℕ) → k < q → quarters g xs q (k + 1)
      ≡ quarters g xs q k + (g (get_or xs k 0) + g (get_or xs (q + k) 0) + g (get_or xs (2 * q + k) 0) + g (get_or xs (3 * q + k) 0))
  quarters_more k below =
      let first = sum_block_more g xs 0 k (omega arith) in
      let second = sum_block_more g xs q k (omega arith) in
      let third = sum_block_more g xs (2 * q) k (omega arith) in
      let fourth = sum_block_more g xs (3 * q) k (omega arith) in
      let start : 0 + k ≡ k = omega arith in
      let first_word : g (get_or xs (0 + k) 0) ≡ g (get_or xs k 0) = ap (λ i. g (get_or xs i 0)) start in
      omega (arith, first, second, third, fourth, first_word)

  -- the whole quarters are the first items
  pub quarters_all : quarters g xs q q ≡ sum_by g (take (4 * q) xs)
  quarters_all =
      let first : sum_by g (chunk 0 q xs) ≡ sum_by g (take q xs) = refl in
      let two = summed_block g xs q (sum_by g (take q xs)) refl q (2 * q) (sum_by g (chunk q q xs)) (omega arith) refl in
      let three = summed_block g xs (2 * q) (sum_by g (take (2 * q) xs)) refl q (3 * q) (sum_by g (chunk (2 * q) q xs)) (omega arith) refl in
      let four = summed_block g xs (3 * q) (sum_by g (take (3 * q) xs)) refl q (4 * q) (sum_by g (chunk (3 * q) q xs)) (omega arith) refl in
      omega (arith, first, two, three, four)
