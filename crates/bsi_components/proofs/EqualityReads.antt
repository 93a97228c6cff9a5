-- What the bitmaps of an equality encoded component say of one digit.
use Rattle.std.proofs.Common.{◌≡◌, ℕ, ◌+◌, ◌-◌, ◌*◌, ◌^◌, ◌<◌, ◌≤◌, Bool, true, false, cond, not, List, length, get_or, map, ap, sym, ◌∙◌, refl, arith}
use Rattle.std.specs.Prelude.{◌==◌, ◌&&◌, ◌||◌, nat_le, nat_lt, sum_by, count_by}
use Rattle.std.specs.List.{items_where_true}
use Rattle.std.specs.Simd.Lanes.{zip2}
use Rattle.std.proofs.lemmas.Bool.Decides.{nat_tests}
use Rattle.std.proofs.Math.Nat.{mul-le-mul_right}
use Rattle.bsi_bits.specs.BitList.{without}
use Rattle.bsi_bits.proofs.Pairs.{zip2-map_right}
use Rattle.bsi_components.specs.Equality.{is_among}
use Rattle.bsi_components.specs.Component.{count_where}
use Rattle.bsi_components.proofs.DigitCounts.{where_none, where_split, where_same, where_parts}
use Rattle.bsi_kernels.proofs.DigitMaps.{zip2_maps, map_map, same_tests, map_same, same_steps, sum_parts, same_sums, zero_sum}

zero_test : (v : ℕ) → v ≤ 1 → not (v == 1) ≡ (v == 0)
zero_test v most = grind (arith, nat_tests)

-- digit 0 under base 2: the one bitmap turned
pub zero_eq : (ds : List ℕ) → ((k : ℕ) → get_or ds k 0 ≤ 1) → map not (map (λ v. v == 1) ds) ≡ map (λ v. v == 0) ds
zero_eq ds most = map_map not (λ v. v == 1) ds ∙ same_tests (λ v. not (v == 1)) (λ v. v == 0) 1 zero_test ds most

zero_step : (f : Bool) (v : ℕ) → v ≤ 1 → without f (v == 1) ≡ (f && (v == 0))
zero_step true v most = zero_test v most
zero_step false v most = refl

-- the rows of a set that have it
pub and_zero : (rows : List Bool) (ds : List ℕ) → ((k : ℕ) → get_or ds k 0 ≤ 1) → zip2 without rows (map (λ v. v == 1) ds) ≡ zip2 (λ f v. f && (v == 0)) rows ds
and_zero rows ds most =
    zip2-map_right without (λ v. v == 1) rows ds
    ∙ same_steps (λ f v. without f (v == 1)) (λ f v. f && (v == 0)) 1 zero_step rows ds most

among_test : (from j v : ℕ) → from ≤ j → (is_among from j v || (v == j)) ≡ is_among from (j + 1) v
among_test from j v within = grind (arith, nat_tests)

-- one digit more
pub among_more : (from j : ℕ) (ds : List ℕ) → from ≤ j → zip2 ◌||◌ (map (is_among from j) ds) (map (λ v. v == j) ds) ≡ map (is_among from (j + 1)) ds
among_more from j ds within =
    zip2_maps ◌||◌ (is_among from j) (λ v. v == j) ds
    ∙ map_same (λ v. is_among from j v || (v == j)) (is_among from (j + 1)) (λ v. among_test from j v within) ds

among_none : (from v : ℕ) → is_among from from v ≡ false
among_none from v = grind (arith, nat_tests)

among_one : (from j v : ℕ) → from ≤ j → cond (is_among from (j + 1) v) 1 0 ≡ cond (is_among from j v) 1 0 + cond (v == j) 1 0
among_one from j v within = grind (arith, nat_tests)

among_least : (d v : ℕ) → is_among 0 (d + 1) v ≡ nat_le v d
among_least d v = grind (arith, nat_tests)

among_rest : (d base v : ℕ) → v ≤ base - 1 → 1 ≤ base → cond (nat_le v d) 1 0 + cond (is_among (d + 1) base v) 1 0 ≡ 1
among_rest d base v most some = grind (arith, nat_tests)

-- rows are counted digit by digit
module _ (selection : List Bool) (ds : List ℕ) where
  pub among_start : (from : ℕ) → count_where (is_among from from) selection ds ≡ 0
  among_start from = where_none (is_among from from) (among_none from) selection ds

  pub among_next : (from j : ℕ) → from ≤ j → count_where (is_among from (j + 1)) selection ds ≡ count_where (is_among from j) selection ds + count_where (λ v. v == j) selection ds
  among_next from j within = where_split (is_among from j) (λ v. v == j) (is_among from (j + 1)) (λ v. among_one from j v within) selection ds

  pub among_first : (d : ℕ) → count_where (is_among 0 (d + 1)) selection ds ≡ count_where (λ v. nat_le v d) selection ds
  among_first d = where_same (is_among 0 (d + 1)) (λ v. nat_le v d) (among_least d) selection ds

  pub among_last : (d base : ℕ) → 1 ≤ base → length selection ≡ length ds → ((k : ℕ) → get_or ds k 0 ≤ base - 1)
      → count_where (λ v. nat_le v d) selection ds + count_where (is_among (d + 1) base) selection ds ≡ count_by (λ b. b) selection
  among_last d base some same most =
      where_parts (λ v. nat_le v d) (is_among (d + 1) base) (base - 1) (λ v within. among_rest d base v within some) selection ds same most

past_test : (d base v : ℕ) → v ≤ base - 1 → 1 ≤ base → not (is_among (d + 1) base v) ≡ nat_le v d
past_test d base v most some = grind (arith, nat_tests)

-- at most a digit: none of those past it
pub past_le : (d base : ℕ) (ds : List ℕ) → 1 ≤ base → ((k : ℕ) → get_or ds k 0 ≤ base - 1) → map not (map (is_among (d + 1) base) ds) ≡ map (λ v. nat_le v d) ds
past_le d base ds some most =
    map_map not (is_among (d + 1) base) ds
    ∙ same_tests (λ v. not (is_among (d + 1) base v)) (λ v. nat_le v d) (base - 1) (λ v within. past_test d base v within some) ds most

lower_more : (j v : ℕ) → cond (nat_lt v (j + 1)) v 0 ≡ cond (v == j) j 0 + cond (nat_lt v j) v 0
lower_more j v = grind (arith, nat_tests)

-- a sum of the digits below j grows by j for each row that has it
pub lower_sum_more : (j : ℕ) (selection : List Bool) (ds : List ℕ) → sum_by (λ v. cond (nat_lt v j) v 0) (items_where_true selection ds) + j * count_by (λ b. b) (zip2 ◌&&◌ selection (map (λ v. v == j) ds)) ≡ sum_by (λ v. cond (nat_lt v (j + 1)) v 0) (items_where_true selection ds)
lower_sum_more j selection ds =
    let n = count_by (λ b. b) (zip2 (λ b v. b && (v == j)) selection ds) in
    let s = sum_by (λ v. cond (nat_lt v j) v 0) (items_where_true selection ds) in
    let swap : s + j * n ≡ n * j + s = omega arith in
    ap (λ bits. s + j * count_by (λ b. b) bits) (zip2-map_right ◌&&◌ (λ v. v == j) selection ds)
    ∙ swap
    ∙ sym (sum_parts (λ b v. b && (v == j)) j (λ v. cond (nat_lt v j) v 0) (λ v. cond (nat_lt v (j + 1)) v 0) (λ v. refl) (lower_more j) selection ds)

none_lower : (v : ℕ) → cond (nat_lt v 1) v 0 ≡ 0
none_lower v = grind (arith, nat_tests)

pub lower_sum_none : (selection : List Bool) (ds : List ℕ) → sum_by (λ v. cond (nat_lt v 1) v 0) (items_where_true selection ds) ≡ 0
lower_sum_none selection ds = zero_sum (λ v. cond (nat_lt v 1) v 0) none_lower selection ds

all_lower : (base v : ℕ) → 1 ≤ base → v ≤ base - 1 → cond (nat_lt v base) v 0 ≡ v
all_lower base v some most = grind (arith, nat_tests)

pub lower_sum_all : (base : ℕ) (selection : List Bool) (ds : List ℕ) → 1 ≤ base → ((k : ℕ) → get_or ds k 0 ≤ base - 1) → sum_by (λ v. cond (nat_lt v base) v 0) (items_where_true selection ds) ≡ sum_by (λ v. v) (items_where_true selection ds)
lower_sum_all base selection ds some most =
    same_sums (λ v. cond (nat_lt v base) v 0) (λ v. v) (base - 1) (λ v within. all_lower base v some within) selection ds most

-- a product of a digit and a count stays small
pub small_product : (j n : ℕ) → j ≤ 1024 → n < 2 ^ 64 → j * n ≤ 1024 * 2 ^ 64
small_product j n few below = omega (arith, mul-le-mul_right n few)
