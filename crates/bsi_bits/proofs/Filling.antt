-- Loops that write a word at each place, one or several at a time.
use Rattle.std.proofs.Common.{◌≡◌, ℕ, ◌+◌, ◌-◌, ◌<◌, ◌≤◌, List, length, get_or, map, inl, inr, ap, ap₂, sym, ◌∙◌, arith}
use Rattle.std.specs.Simd.Lanes.{zip2, chunk, put_chunk}
use Rattle.std.proofs.lemmas.Simd.{length-zip2, get_or-zip2, length-chunk, get_or-chunk, length-put_chunk, get_or-put_chunk_below, get_or-put_chunk_at, get_or-put_chunk_above}
use Rattle.std.proofs.lemmas.List.{same_lists, length-map, get_or-map}
use Rattle.std.proofs.lemmas.Grind.{get_or_default_zero}
use Rattle.std.proofs.lemmas.Bool.{cases_lt}

-- each word before i is f of its place and the old one, and the others are the old ones
pub record IsFilled (f : ℕ → ℕ → ℕ) (i : ℕ) (old now : List ℕ) : Type 0 where
  pub long : length now ≡ length old
  pub done : (k : ℕ) → k < i → get_or now k 0 ≡ f k (get_or old k 0)
  pub rest : (k : ℕ) → i ≤ k → get_or now k 0 ≡ get_or old k 0

module _ (f : ℕ → ℕ → ℕ) (i : ℕ) (old now : List ℕ) (filled : IsFilled f i old now) where
  -- so it is after a store of n words at i, each f of its place and the word there
  pub filled_store : (n m : ℕ) (ys : List ℕ) → m ≡ i + n → m ≤ length old → length ys ≡ n → ((j : ℕ) → j < n → get_or ys j 0 ≡ f (i + j) (get_or now (i + j) 0)) → IsFilled f m old (put_chunk i now ys)
  filled_store n m ys next within long each = record {
    long = length-put_chunk i now ys ∙ filled.long;
    done = λ k below. elim (cases_lt k i) [
      | inl before ↦ get_or-put_chunk_below i now ys k 0 before ∙ filled.done k before
      | inr from ↦
          let place : i + (k - i) ≡ k = omega arith in
          let in_store : k - i < length ys = omega arith in
          let fits : i + length ys ≤ length now = omega (arith, filled.long) in
          let stored = get_or-put_chunk_at i now ys (k - i) 0 in_store fits in
          ap (λ p. get_or (put_chunk i now ys) p 0) (sym place) ∙ stored ∙ each (k - i) (omega arith)
          ∙ ap₂ f place (ap (λ p. get_or now p 0) place ∙ filled.rest k from)
    ];
    rest = λ k past. get_or-put_chunk_above i now ys k 0 (omega arith) ∙ filled.rest k (omega arith);
  }

  -- past the last word it is the list that has f of each place and old word
  pub filled_all : length old ≤ i → (target : List ℕ) → length target ≡ length old → ((k : ℕ) → k < length old → get_or target k 0 ≡ f k (get_or old k 0)) → now ≡ target
  filled_all past target same each = same_lists _ _ (filled.long ∙ sym same) (λ k d within.
      let in_old : k < length old = omega (arith, filled.long) in
      let in_target : k < length target = omega arith in
      get_or_default_zero now k d within ∙ filled.done k (omega arith)
      ∙ sym (get_or_default_zero target k d in_target ∙ each k in_old))

-- a word and the one at its place in another list
abbrev pub paired : (ℕ → ℕ → ℕ) → List ℕ → ℕ → ℕ → ℕ
paired f b k x = f x (get_or b k 0)

module _ (f : ℕ → ℕ → ℕ) (i : ℕ) (old b now : List ℕ) (same : length old ≡ length b) (filled : IsFilled (paired f b) i old now) where
  -- a block of n words, paired
  pub filled_block : (n m : ℕ) → m ≡ i + n → m ≤ length old → IsFilled (paired f b) m old (put_chunk i now (zip2 f (chunk i n now) (chunk i n b)))
  filled_block n m next within =
      let long_now : length (chunk i n now) ≡ n = length-chunk i n now (omega (arith, filled.long)) in
      let long_b : length (chunk i n b) ≡ n = length-chunk i n b (omega arith) in
      filled_store (paired f b) i old now filled n m _ next within (length-zip2 f _ _ (long_now ∙ sym long_b) ∙ long_now) (λ j below.
      get_or-zip2 f (chunk i n now) (chunk i n b) j 0 0 0 (omega arith) (omega arith)
      ∙ ap₂ f (get_or-chunk i n now j 0 below) (get_or-chunk i n b j 0 below))

  pub filled_pairs : length old ≤ i → now ≡ zip2 f old b
  filled_pairs past = filled_all (paired f b) i old now filled past (zip2 f old b) (length-zip2 f old b same) (λ k within.
      get_or-zip2 f old b k 0 0 0 within (omega arith))

-- a word and those at its place in two other lists, one after the other
abbrev pub paired_twice : (ℕ → ℕ → ℕ) → (ℕ → ℕ → ℕ) → List ℕ → List ℕ → ℕ → ℕ → ℕ
paired_twice f g b c k x = g (f x (get_or b k 0)) (get_or c k 0)

module _ (f g : ℕ → ℕ → ℕ) (i : ℕ) (old b c now : List ℕ) (same : length old ≡ length b) (same_again : length old ≡ length c) (filled : IsFilled (paired_twice f g b c) i old now) where
  pub filled_block_twice : (n m : ℕ) → m ≡ i + n → m ≤ length old
      → IsFilled (paired_twice f g b c) m old (put_chunk i now (zip2 g (zip2 f (chunk i n now) (chunk i n b)) (chunk i n c)))
  filled_block_twice n m next within =
      let long_now : length (chunk i n now) ≡ n = length-chunk i n now (omega (arith, filled.long)) in
      let long_b : length (chunk i n b) ≡ n = length-chunk i n b (omega arith) in
      let long_c : length (chunk i n c) ≡ n = length-chunk i n c (omega arith) in
      let long_first : length (zip2 f (chunk i n now) (chunk i n b)) ≡ n = length-zip2 f _ _ (long_now ∙ sym long_b) ∙ long_now in
      filled_store (paired_twice f g b c) i old now filled n m _ next within (length-zip2 g _ _ (long_first ∙ sym long_c) ∙ long_first) (λ j below.
      get_or-zip2 g (zip2 f (chunk i n now) (chunk i n b)) (chunk i n c) j 0 0 0 (omega arith) (omega arith)
      ∙ ap₂ g (get_or-zip2 f (chunk i n now) (chunk i n b) j 0 0 0 (omega arith) (omega arith)
      ∙ ap₂ f (get_or-chunk i n now j 0 below) (get_or-chunk i n b j 0 below))
      (get_or-chunk i n c j 0 below))

  pub filled_pairs_twice : length old ≤ i → now ≡ zip2 g (zip2 f old b) c
  filled_pairs_twice past =
      let long_first = length-zip2 f old b same in
      filled_all (paired_twice f g b c) i old now filled past (zip2 g (zip2 f old b) c) (length-zip2 g (zip2 f old b) c (long_first ∙ same_again) ∙ long_first) (λ k within.
      get_or-zip2 g (zip2 f old b) c k 0 0 0 (omega arith) (omega arith)
      ∙ ap (λ x. g x (get_or c k 0)) (get_or-zip2 f old b k 0 0 0 within (omega arith)))

-- a function of each word alone
abbrev pub alone : (ℕ → ℕ) → ℕ → ℕ → ℕ
alone f k x = f x

module _ (f : ℕ → ℕ) (i : ℕ) (old now : List ℕ) (filled : IsFilled (alone f) i old now) where
  pub filled_mapped : (n m : ℕ) → m ≡ i + n → m ≤ length old → IsFilled (alone f) m old (put_chunk i now (map f (chunk i n now)))
  filled_mapped n m next within =
      let long : length (chunk i n now) ≡ n = length-chunk i n now (omega (arith, filled.long)) in
      filled_store (alone f) i old now filled n m _ next within (length-map (chunk i n now) f ∙ long) (λ j below.
      let in_chunk : j < length (chunk i n now) = omega arith in
      get_or-map f (chunk i n now) j 0 0 in_chunk ∙ ap f (get_or-chunk i n now j 0 below))

  pub filled_map : length old ≤ i → now ≡ map f old
  filled_map past = filled_all (alone f) i old now filled past (map f old) (length-map old f) (λ k within. get_or-map f old k 0 0 within)
