-- What the bitmaps of a range encoded component say of one digit.
use Rattle.std.proofs.Common.{◌≡◌, ℕ, ◌+◌, ◌-◌, ◌*◌, ◌<◌, ◌≤◌, Bool, true, false, cond, not, List, get_or, map, ap, sym, ◌∙◌, refl, arith}
use Rattle.std.specs.Prelude.{◌==◌, ◌&&◌, ◌||◌, nat_le, sum_by, count_by, min}
use Rattle.std.specs.List.{items_where_true}
use Rattle.std.specs.Simd.Lanes.{zip2}
use Rattle.std.proofs.lemmas.Bool.Decides.{nat_tests}
use Rattle.bsi_bits.specs.BitList.{without}
use Rattle.bsi_bits.proofs.Pairs.{zip2-map_right}
use Rattle.bsi_kernels.proofs.DigitMaps.{zip2_maps, map_map, same_tests, map_same, zip2_twice, same_steps, sum_parts, same_sums, zero_sum}

top_test : (d v : ℕ) → 0 < d → v ≤ d → not (nat_le v (d - 1)) ≡ (v == d)
top_test d v some most = grind (arith, nat_tests)

between_test : (d v : ℕ) → 0 < d → without (nat_le v d) (nat_le v (d - 1)) ≡ (v == d)
between_test d v some = grind (arith, nat_tests)

-- the greatest digit: the last bitmap turned
pub top_eq : (d : ℕ) (ds : List ℕ) → 0 < d → ((k : ℕ) → get_or ds k 0 ≤ d) → map not (map (λ v. nat_le v (d - 1)) ds) ≡ map (λ v. v == d) ds
top_eq d ds some most =
    map_map not (λ v. nat_le v (d - 1)) ds
    ∙ same_tests (λ v. not (nat_le v (d - 1))) (λ v. v == d) d (λ v. top_test d v some) ds most

-- a digit between: its bitmap but for the one before
pub between_eq : (d : ℕ) (ds : List ℕ) → 0 < d → zip2 without (map (λ v. nat_le v d) ds) (map (λ v. nat_le v (d - 1)) ds) ≡ map (λ v. v == d) ds
between_eq d ds some =
    zip2_maps without (λ v. nat_le v d) (λ v. nat_le v (d - 1)) ds
    ∙ map_same (λ v. without (nat_le v d) (nat_le v (d - 1))) (λ v. v == d) (λ v. between_test d v some) ds

least_step : (f : Bool) (v : ℕ) → (f && nat_le v 0) ≡ (f && (v == 0))
least_step true v = grind (arith, nat_tests)
least_step false v = refl

between_step : (d : ℕ) → 0 < d → (f : Bool) (v : ℕ) → without (f && nat_le v d) (nat_le v (d - 1)) ≡ (f && (v == d))
between_step d some true v = between_test d v some
between_step d some false v = refl

top_step : (d : ℕ) → 0 < d → (f : Bool) (v : ℕ) → v ≤ d → without f (nat_le v (d - 1)) ≡ (f && (v == d))
top_step d some true v most = top_test d v some most
top_step d some false v most = refl

-- the rows of a set that have digit 0, one between, and the greatest
module _ (top : ℕ) (rows : List Bool) (ds : List ℕ) (most : (k : ℕ) → get_or ds k 0 ≤ top) where
  pub and_least : zip2 ◌&&◌ rows (map (λ v. nat_le v 0) ds) ≡ zip2 (λ f v. f && (v == 0)) rows ds
  and_least =
      zip2-map_right ◌&&◌ (λ v. nat_le v 0) rows ds
      ∙ same_steps (λ f v. f && nat_le v 0) (λ f v. f && (v == 0)) top (λ f v within. least_step f v) rows ds most

  pub and_between : (d : ℕ) → 0 < d → zip2 without (zip2 ◌&&◌ rows (map (λ v. nat_le v d) ds)) (map (λ v. nat_le v (d - 1)) ds) ≡ zip2 (λ f v. f && (v == d)) rows ds
  and_between d some =
      zip2_twice ◌&&◌ without (λ v. nat_le v d) (λ v. nat_le v (d - 1)) rows ds
      ∙ same_steps (λ f v. without (f && nat_le v d) (nat_le v (d - 1))) (λ f v. f && (v == d)) top (λ f v within. between_step d some f v) rows ds most

  pub and_greatest : 0 < top → zip2 without rows (map (λ v. nat_le v (top - 1)) ds) ≡ zip2 (λ f v. f && (v == top)) rows ds
  and_greatest some =
      zip2-map_right without (λ v. nat_le v (top - 1)) rows ds
      ∙ same_steps (λ f v. without f (nat_le v (top - 1))) (λ f v. f && (v == top)) top (top_step top some) rows ds most

either_way : (b : Bool) → (not b || b) ≡ true
either_way true = refl
either_way false = refl

all_within : (d v : ℕ) → v ≤ d → true ≡ nat_le v d
all_within d v most = grind (arith, nat_tests)

-- at most the greatest digit: every row
pub top_le : (f : ℕ → Bool) (d : ℕ) (ds : List ℕ) → ((k : ℕ) → get_or ds k 0 ≤ d) → zip2 ◌||◌ (map not (map f ds)) (map f ds) ≡ map (λ v. nat_le v d) ds
top_le f d ds most =
    ap (λ bits. zip2 ◌||◌ bits (map f ds)) (map_map not f ds)
    ∙ zip2_maps ◌||◌ (λ v. not (f v)) f ds
    ∙ same_tests (λ v. not (f v) || f v) (λ v. nat_le v d) d (λ v within. either_way (f v) ∙ all_within d v within) ds most

capped_more : (j v : ℕ) → min v (j + 1) ≡ cond (without true (nat_le v j)) 1 0 + min v j
capped_more j v = grind (arith, nat_tests)

-- a sum of digits, each up to j, grows by the rows that the bitmap of j does not have
pub capped_sum_more : (j : ℕ) (selection : List Bool) (ds : List ℕ) → sum_by (λ v. min v j) (items_where_true selection ds) + count_by (λ b. b) (zip2 without selection (map (λ v. nat_le v j) ds)) ≡ sum_by (λ v. min v (j + 1)) (items_where_true selection ds)
capped_sum_more j selection ds =
    let n = count_by (λ b. b) (zip2 (λ b v. without b (nat_le v j)) selection ds) in
    let s = sum_by (λ v. min v j) (items_where_true selection ds) in
    let swap : s + n ≡ n * 1 + s = omega arith in
    ap (λ bits. s + count_by (λ b. b) bits) (zip2-map_right without (λ v. nat_le v j) selection ds)
    ∙ swap
    ∙ sym (sum_parts (λ b v. without b (nat_le v j)) 1 (λ v. min v j) (λ v. min v (j + 1)) (λ v. refl) (capped_more j) selection ds)

pub capped_sum_none : (selection : List Bool) (ds : List ℕ) → sum_by (λ v. min v 0) (items_where_true selection ds) ≡ 0
capped_sum_none selection ds = zero_sum (λ v. min v 0) (λ v. omega arith) selection ds

pub capped_sum_all : (top : ℕ) (selection : List Bool) (ds : List ℕ) → ((k : ℕ) → get_or ds k 0 ≤ top) → sum_by (λ v. min v top) (items_where_true selection ds) ≡ sum_by (λ v. v) (items_where_true selection ds)
capped_sum_all top selection ds most = same_sums (λ v. min v top) (λ v. v) top (λ v within. omega arith) selection ds most
