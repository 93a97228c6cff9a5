-- Lists that are made piece by piece, one piece for each of the first numbers.
use Rattle.std.proofs.Common.{◌≡◌, ℕ, zero, suc, ◌+◌, ◌<◌, ◌≤◌, List, [], ◌∷◌, ◌++◌, length, get_or, take, map, refl, sym, ap, ap₂, ◌∙◌, append-nil, inl, inr, arith}
use Rattle.std.proofs.lemmas.Bool.{cases_eq}
use Rattle.std.specs.List.{flat_map, range_with_len}
use Rattle.std.proofs.lemmas.Grind.{flat_map-append}
use Rattle.std.proofs.lemmas.List.{length-append, map-append}
use Rattle.std.proofs.lemmas.List.Concat.{get_or-flat_map}
use Rattle.std.proofs.lemmas.List.FromFn.{length-range_with_len, get_or-range_with_len, map-range_with_len_more, take-map-range_with_len}

range_is : (a n : ℕ) → map (λ (i : ℕ). i) (range_with_len a n) ≡ range_with_len a n
range_is a zero = refl
range_is a (suc n) = ap (λ xs. a ∷ xs) (range_is (a + 1) n)

range_more : (n : ℕ) → range_with_len 0 (n + 1) ≡ range_with_len 0 n ++ n ∷ []
range_more n =
    sym (range_is 0 (n + 1)) ∙ map-range_with_len_more (λ (i : ℕ). i) 0 n n (omega arith)
    ∙ ap (λ xs. xs ++ n ∷ []) (range_is 0 n)

take_range : (n i : ℕ) → i ≤ n → take i (range_with_len 0 n) ≡ range_with_len 0 i
take_range n i within =
    ap (take i) (sym (range_is 0 n)) ∙ take-map-range_with_len (λ (j : ℕ). j) 0 n i within ∙ range_is 0 i

module _ {A : Type 0} where
  -- one piece more
  pub pieces_more : (f : ℕ → List A) (n : ℕ) → flat_map f (range_with_len 0 (n + 1)) ≡ flat_map f (range_with_len 0 n) ++ f n
  pieces_more f n =
      ap (flat_map f) (range_more n) ∙ flat_map-append f (range_with_len 0 n) (n ∷ [])
      ∙ ap (λ xs. flat_map f (range_with_len 0 n) ++ xs) (append-nil (f n))

  -- the same pieces
  pub pieces_same : (f g : ℕ → List A) (n : ℕ) → ((i : ℕ) → i < n → f i ≡ g i) → flat_map f (range_with_len 0 n) ≡ flat_map g (range_with_len 0 n)
  pieces_same f g zero same = refl
  pieces_same f g (suc n) same =
      let e : suc n ≡ n + 1 = omega arith in
      ap (λ k. flat_map f (range_with_len 0 k)) e ∙ pieces_more f n
      ∙ ap₂ ◌++◌ (pieces_same f g n (λ i within. same i (omega arith))) (same n (omega arith))
      ∙ sym (pieces_more g n) ∙ ap (λ k. flat_map g (range_with_len 0 k)) (sym e)

  -- the pieces up to one are not longer than all
  pub pieces_within : (f : ℕ → List A) (n i : ℕ) → i < n → length (flat_map f (range_with_len 0 i)) + length (f i) ≤ length (flat_map f (range_with_len 0 n))
  pieces_within f zero i within = absurd (omega arith)
  pieces_within f (suc n) i within =
      let e : suc n ≡ n + 1 = omega arith in
      let all : length (flat_map f (range_with_len 0 (suc n))) ≡ length (flat_map f (range_with_len 0 n)) + length (f n) =
      ap (λ k. length (flat_map f (range_with_len 0 k))) e ∙ ap length (pieces_more f n) ∙ length-append (flat_map f (range_with_len 0 n)) (f n) in
      elim (cases_eq i n) [
        | inl same ↦ omega (arith, all, ap (λ k. length (flat_map f (range_with_len 0 k)) + length (f k)) same)
        | inr apart ↦ let before = pieces_within f n i (omega (arith, within, apart)) in omega (arith, all, before)
      ]

  -- item k of piece i stands after the pieces before it
  pub piece_at : (f : ℕ → List A) (n i k : ℕ) (d : A) → i < n → k < length (f i)
      → get_or (flat_map f (range_with_len 0 n)) (length (flat_map f (range_with_len 0 i)) + k) d ≡ get_or (f i) k d
  piece_at f n i k d within inside =
      let there : i < length (range_with_len 0 n) = omega (arith, within, length-range_with_len 0 n) in
      let it : get_or (range_with_len 0 n) i 0 ≡ i = get_or-range_with_len 0 n i 0 within ∙ omega arith in
      ap (λ xs. get_or (flat_map f (range_with_len 0 n)) (length (flat_map f xs) + k) d) (sym (take_range n i (omega arith)))
      ∙ get_or-flat_map f (range_with_len 0 n) i k 0 d there (omega (arith, inside, ap (λ j. length (f j)) it))
      ∙ ap (λ j. get_or (f j) k d) it

-- pieces of the same lengths
pub pieces_long : {A B : Type 0} (f : ℕ → List A) (g : ℕ → List B) (n : ℕ) → ((i : ℕ) → i < n → length (f i) ≡ length (g i))
    → length (flat_map f (range_with_len 0 n)) ≡ length (flat_map g (range_with_len 0 n))
pieces_long f g zero same = refl
pieces_long f g (suc n) same =
    let e : suc n ≡ n + 1 = omega arith in
    let before = pieces_long f g n (λ i within. same i (omega arith)) in
    ap (λ k. length (flat_map f (range_with_len 0 k))) e ∙ ap length (pieces_more f n) ∙ length-append (flat_map f (range_with_len 0 n)) (f n)
    ∙ ap₂ ◌+◌ before (same n (omega arith))
    ∙ sym (ap (λ k. length (flat_map g (range_with_len 0 k))) e ∙ ap length (pieces_more g n) ∙ length-append (flat_map g (range_with_len 0 n)) (g n))

-- a function of each item of the pieces
pub map-pieces : {A B : Type 0} (g : A → B) (f : ℕ → List A) (n : ℕ) → map g (flat_map f (range_with_len 0 n)) ≡ flat_map (λ i. map g (f i)) (range_with_len 0 n)
map-pieces g f zero = refl
map-pieces g f (suc n) =
    let e : suc n ≡ n + 1 = omega arith in
    ap (λ k. map g (flat_map f (range_with_len 0 k))) e ∙ ap (map g) (pieces_more f n) ∙ map-append g (flat_map f (range_with_len 0 n)) (f n)
    ∙ ap (λ xs. xs ++ map g (f n)) (map-pieces g f n) ∙ sym (pieces_more (λ i. map g (f i)) n)
    ∙ ap (λ k. flat_map (λ i. map g (f i)) (range_with_len 0 k)) (sym e)
