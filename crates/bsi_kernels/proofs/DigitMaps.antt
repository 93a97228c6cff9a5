-- Bits made of a list of digits, digit by digit.
use Rattle.std.proofs.Common.{◌≡◌, ℕ, zero, suc, ◌+◌, ◌*◌, ◌≤◌, Bool, true, false, cond, List, [], ◌∷◌, get_or, map, ap, ap₂, sym, ◌∙◌, refl, arith}
use Rattle.std.specs.Prelude.{sum_by, count_by}
use Rattle.std.specs.List.{items_where_true}
use Rattle.std.specs.Simd.Lanes.{zip2}
use Rattle.std.proofs.lemmas.List.Sums.{sum_by-cons}

-- pairs of two tests of the digits are one test
pub zip2_maps : (h : Bool → Bool → Bool) (f g : ℕ → Bool) (ds : List ℕ) → zip2 h (map f ds) (map g ds) ≡ map (λ v. h (f v) (g v)) ds
zip2_maps h f g [] = refl
zip2_maps h f g (d ∷ ds) = ap (λ bits. h (f d) (g d) ∷ bits) (zip2_maps h f g ds)

-- a test of a test is one test
pub map_map : (h : Bool → Bool) (f : ℕ → Bool) (ds : List ℕ) → map h (map f ds) ≡ map (λ v. h (f v)) ds
map_map h f [] = refl
map_map h f (d ∷ ds) = ap (λ bits. h (f d) ∷ bits) (map_map h f ds)

-- two tests that agree on the digits that there are
pub same_tests : (f g : ℕ → Bool) (top : ℕ) → ((v : ℕ) → v ≤ top → f v ≡ g v) → (ds : List ℕ) → ((k : ℕ) → get_or ds k 0 ≤ top) → map f ds ≡ map g ds
same_tests f g top agree [] most = refl
same_tests f g top agree (d ∷ ds) most =
    ap₂ (λ bit bits. bit ∷ bits) (agree d (most zero)) (same_tests f g top agree ds (λ k. most (suc k)))

-- two tests that agree
pub map_same : (f g : ℕ → Bool) → ((v : ℕ) → f v ≡ g v) → (ds : List ℕ) → map f ds ≡ map g ds
map_same f g agree [] = refl
map_same f g agree (d ∷ ds) = ap₂ (λ bit bits. bit ∷ bits) (agree d) (map_same f g agree ds)

-- rows that are stepped by a test of their digits, and once more by another
pub zip2_twice : (g h : Bool → Bool → Bool) (p q : ℕ → Bool) (rows : List Bool) (ds : List ℕ) → zip2 h (zip2 g rows (map p ds)) (map q ds) ≡ zip2 (λ f v. h (g f (p v)) (q v)) rows ds
zip2_twice g h p q [] ds = refl
zip2_twice g h p q (f ∷ rows) [] = refl
zip2_twice g h p q (f ∷ rows) (d ∷ ds) = ap (λ bits. h (g f (p d)) (q d) ∷ bits) (zip2_twice g h p q rows ds)

-- two steps that agree on the digits that there are
pub same_steps : (f g : Bool → ℕ → Bool) (top : ℕ) → ((b : Bool) (v : ℕ) → v ≤ top → f b v ≡ g b v) → (rows : List Bool) (ds : List ℕ) → ((k : ℕ) → get_or ds k 0 ≤ top) → zip2 f rows ds ≡ zip2 g rows ds
same_steps f g top agree [] ds most = refl
same_steps f g top agree (b ∷ rows) [] most = refl
same_steps f g top agree (b ∷ rows) (d ∷ ds) most =
    ap₂ (λ bit bits. bit ∷ bits) (agree b d (most zero)) (same_steps f g top agree rows ds (λ k. most (suc k)))

-- a sum over selected rows of two parts, of which one is a weight of the rows that a test counts
module _ (test : Bool → ℕ → Bool) (weight : ℕ) (f g : ℕ → ℕ) (off : (v : ℕ) → test false v ≡ false) (parts : (v : ℕ) → g v ≡ cond (test true v) weight 0 + f v) where
  term_sum : (b : Bool) (n x s : ℕ) → cond b weight 0 + x + (n * weight + s) ≡ (cond b 1 0 + n) * weight + (x + s)
  term_sum true n x s = omega arith
  term_sum false n x s = omega arith

  pub sum_parts : (selection : List Bool) (ds : List ℕ) → sum_by g (items_where_true selection ds) ≡ count_by (λ b. b) (zip2 test selection ds) * weight + sum_by f (items_where_true selection ds)
  sum_parts [] ds = omega arith
  sum_parts (b ∷ selection) [] = omega arith
  sum_parts (true ∷ selection) (d ∷ ds) =
      let counted = sum_by-cons (λ b. cond b 1 0) (test true d) (zip2 test selection ds) in
      let rest = sum_parts selection ds in
      let n = count_by (λ b. b) (zip2 test selection ds) in
      let s = sum_by f (items_where_true selection ds) in
      sum_by-cons g d (items_where_true selection ds) ∙ ap₂ (λ x y. x + y) (parts d) rest
      ∙ term_sum (test true d) n (f d) s
      ∙ ap₂ (λ x y. x * weight + y) (sym counted) (sym (sum_by-cons f d (items_where_true selection ds)))
  sum_parts (false ∷ selection) (d ∷ ds) =
      let counted = sum_by-cons (λ b. cond b 1 0) (test false d) (zip2 test selection ds) in
      sum_parts selection ds ∙ ap (λ n. n * weight + sum_by f (items_where_true selection ds))
      (sym (counted ∙ ap (λ b. cond b 1 0 + count_by (λ b. b) (zip2 test selection ds)) (off d) ∙ omega arith))

-- a sum over selected rows of numbers that agree on the digits that there are
pub same_sums : (f g : ℕ → ℕ) (top : ℕ) → ((v : ℕ) → v ≤ top → f v ≡ g v) → (selection : List Bool) (ds : List ℕ) → ((k : ℕ) → get_or ds k 0 ≤ top) → sum_by f (items_where_true selection ds) ≡ sum_by g (items_where_true selection ds)
same_sums f g top agree [] ds most = refl
same_sums f g top agree (b ∷ selection) [] most = refl
same_sums f g top agree (true ∷ selection) (d ∷ ds) most =
    sum_by-cons f d (items_where_true selection ds)
    ∙ ap₂ (λ x y. x + y) (agree d (most zero)) (same_sums f g top agree selection ds (λ k. most (suc k)))
    ∙ sym (sum_by-cons g d (items_where_true selection ds))
same_sums f g top agree (false ∷ selection) (d ∷ ds) most = same_sums f g top agree selection ds (λ k. most (suc k))

-- a sum of nothing
pub zero_sum : (f : ℕ → ℕ) → ((v : ℕ) → f v ≡ 0) → (selection : List Bool) (ds : List ℕ) → sum_by f (items_where_true selection ds) ≡ 0
zero_sum f none [] ds = refl
zero_sum f none (b ∷ selection) [] = refl
zero_sum f none (true ∷ selection) (d ∷ ds) =
    sum_by-cons f d (items_where_true selection ds) ∙ ap₂ (λ x y. x + y) (none d) (zero_sum f none selection ds) ∙ omega arith
zero_sum f none (false ∷ selection) (d ∷ ds) = zero_sum f none selection ds
