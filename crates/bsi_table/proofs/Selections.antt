-- The positions at which a test passes, and what stands there.
use Rattle.std.proofs.Common.{◌≡◌, ℕ, ◌+◌, zero, suc, Bool, true, false, cond, List, [], ◌∷◌, Option, length, map, filter, refl, sym, ap, ap₂, ◌∙◌, add-one}
use Rattle.std.specs.Prelude.{count_by, filter_map, slice_index_or}
use Rattle.std.specs.List.{range_with_len, items_where_true, cons_option}
use Rattle.std.proofs.lemmas.List.{length-map}
use Rattle.std.proofs.lemmas.List.Sums.{length-filter, sum_by-cons}
use Rattle.bsi_bits.specs.BitList.{set_positions}
use Rattle.bsi_digits.specs.Orders.{values_at}

-- the numbers one further
range_suc : (a n : ℕ) → range_with_len (a + 1) n ≡ map suc (range_with_len a n)
range_suc a zero = refl
range_suc a (suc n) = ap₂ (λ k ks. k ∷ ks) (add-one a) (range_suc (a + 1) n)

-- a value is put before a list or left out, and then each is turned
cond-map : {X Y : Type 0} (f : X → Y) (b : Bool) (x : X) (xs : List X) (ys : List Y) → ys ≡ map f xs
    → cond b (f x ∷ ys) ys ≡ map f (cond b (x ∷ xs) xs)
cond-map f true x xs ys e = ap (λ zs. f x ∷ zs) e
cond-map f false x xs ys e = e

filter-map : {X Y : Type 0} (f : X → Y) (p : Y → Bool) (xs : List X) → filter p (map f xs) ≡ map f (filter (λ x. p (f x)) xs)
filter-map f p [] = refl
filter-map f p (x ∷ xs) =
    cond-map f (p (f x)) x (filter (λ y. p (f y)) xs) (filter p (map f xs)) (filter-map f p xs)

-- the positions at which the test passes, rising
abbrev pub places : {X : Type 0} → X → (X → Bool) → List X → List ℕ
places d p xs = filter (λ r. p (slice_index_or xs r d)) (range_with_len 0 (length xs))

module _ {X : Type 0} (d : X) (p : X → Bool) where
  -- those of a list with one value before it
  places-cons : (x : X) (xs : List X) → places d p (x ∷ xs) ≡ cond (p x) (0 ∷ map suc (places d p xs)) (map suc (places d p xs))
  places-cons x xs =
      ap (λ ks. cond (p x) (0 ∷ ks) ks)
      (ap (filter (λ r. p (slice_index_or (x ∷ xs) r d))) (range_suc 0 (length xs))
      ∙ filter-map suc (λ r. p (slice_index_or (x ∷ xs) r d)) (range_with_len 0 (length xs)))

  -- those at which the bits of the test are set
  pub set_positions-map : (xs : List X) → set_positions (map p xs) ≡ places d p xs
  set_positions-map [] = refl
  set_positions-map (x ∷ xs) =
      bits-cons (p x) (map p xs) ∙ ap (λ ks. cond (p x) (0 ∷ map suc ks) (map suc ks)) (set_positions-map xs) ∙ sym (places-cons x xs)
    where
      bits-cons : (b : Bool) (bs : List Bool) → set_positions (b ∷ bs) ≡ cond b (0 ∷ map suc (set_positions bs)) (map suc (set_positions bs))
      bits-cons b bs =
          ap (λ ks. cond b (0 ∷ ks) ks)
          (ap (filter (λ r. slice_index_or (b ∷ bs) r false)) (range_suc 0 (length bs))
          ∙ filter-map suc (λ r. slice_index_or (b ∷ bs) r false) (range_with_len 0 (length bs)))

  -- what stands there passes the test
  pub map-places : (xs : List X) → map (λ r. slice_index_or xs r d) (places d p xs) ≡ filter p xs
  map-places xs =
      sym (filter-map (λ r. slice_index_or xs r d) p (range_with_len 0 (length xs))) ∙ ap (filter p) (each xs)
    where
      later : (x : X) (xs : List X) (ks : List ℕ) → map (λ r. slice_index_or (x ∷ xs) r d) (map suc ks) ≡ map (λ r. slice_index_or xs r d) ks
      later x xs [] = refl
      later x xs (k ∷ ks) = ap (λ ys. slice_index_or xs k d ∷ ys) (later x xs ks)

      each : (xs : List X) → map (λ r. slice_index_or xs r d) (range_with_len 0 (length xs)) ≡ xs
      each [] = refl
      each (x ∷ xs) = ap (λ ys. x ∷ ys) (ap (map (λ r. slice_index_or (x ∷ xs) r d)) (range_suc 0 (length xs)) ∙ later x xs (range_with_len 0 (length xs)) ∙ each xs)

  -- as many as there are set bits
  pub length-places : (xs : List X) → length (places d p xs) ≡ count_by (λ b. b) (map p xs)
  length-places xs =
      sym (length-map (places d p xs) (λ r. slice_index_or xs r d)) ∙ ap length (map-places xs) ∙ length-filter p xs ∙ counted xs
    where
      counted : (xs : List X) → count_by p xs ≡ count_by (λ b. b) (map p xs)
      counted [] = refl
      counted (x ∷ xs) =
          sum_by-cons (λ y. cond (p y) 1 0) x xs ∙ ap (λ n. cond (p x) 1 0 + n) (counted xs) ∙ sym (sum_by-cons (λ b. cond b 1 0) (p x) (map p xs))

module _ {X Y : Type 0} (d : X) (p : X → Bool) (e : X → Option Y) where
  filter_map-map : (f : ℕ → X) (ks : List ℕ) → filter_map e (map f ks) ≡ filter_map (λ k. e (f k)) ks
  filter_map-map f [] = refl
  filter_map-map f (k ∷ ks) = ap (cons_option (e (f k))) (filter_map-map f ks)

  selection : (xs : List X) → values_at (map p xs) (map e xs) ≡ filter_map e (filter p xs)
  selection [] = refl
  selection (x ∷ xs) = by (p x) (selection xs)
    where
      by : (b : Bool) → values_at (map p xs) (map e xs) ≡ filter_map e (filter p xs)
          → filter_map (λ o. o) (items_where_true (b ∷ map p xs) (e x ∷ map e xs)) ≡ filter_map e (cond b (x ∷ filter p xs) (filter p xs))
      by true rest = ap (cons_option (e x)) rest
      by false rest = rest

  -- the values that a selection has are those at the positions
  pub values-places : (xs : List X) → values_at (map p xs) (map e xs) ≡ filter_map (λ r. e (slice_index_or xs r d)) (places d p xs)
  values-places xs =
      selection xs ∙ ap (filter_map e) (sym (map-places d p xs)) ∙ filter_map-map (λ r. slice_index_or xs r d) (places d p xs)
