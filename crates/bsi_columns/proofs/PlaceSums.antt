-- Sums of numbers, one binary place after the other.
use Rattle.std.proofs.Common.{◌≡◌, ℕ, ◌+◌, ◌*◌, ◌-◌, ◌/◌, ◌%◌, ◌^◌, ◌<◌, ◌≤◌, Bool, true, false, ◌&&◌, ◌||◌, inl, inr, ap, ap₂, sym, ◌∙◌, arith}
use Rattle.std.specs.Prelude.{◌==◌, ◌≢◌, bit_and, nat_le, if◌then◌else◌}
use Rattle.std.specs.Int.{bit_at}
use Rattle.std.proofs.Math.Nat.{mod-add-div', mul-mod_left}
use Rattle.std.proofs.lemmas.Bool.{cases_lt}
use Rattle.std.proofs.lemmas.Bool.Decides.{nat_tests}
use Rattle.std.proofs.lemmas.Nat.{mod_below, pow-add, pow_pos}
use Rattle.std.proofs.lemmas.Nat.Bits.{bit_at_above, bit_at_cat_high, bit_at_cat_low, bit_at_lowest, shr_and_one}
use Rattle.bsi_bits.specs.BitList.{differ}
use Rattle.bsi_slices.specs.Slices.{bit_value}
use Rattle.bsi_slices.proofs.Related.{carry_more}
use Rattle.bsi_slices.proofs.SliceNumbers.{places_more}
use Rattle.bsi_kernels.specs.Places.{has_place}

-- a number below a power has no place from there on
pub place_past : (x n k : ℕ) → n ≤ k → x < 2 ^ n → has_place k x ≡ false
place_past x n k past small =
    ap (λ b. b == 1) (bit_at_above x n k small past)

-- the places of a number times a power of two
pub raised_high : (x by k : ℕ) → by ≤ k → has_place k (x * 2 ^ by) ≡ has_place (k - by) x
raised_high x by k high =
    let whole : x * 2 ^ by ≡ x * 2 ^ by + 0 = omega arith in
    ap (λ m. bit_at m k == 1) whole ∙ ap (λ b. b == 1) (bit_at_cat_high x by 0 k (pow_pos by) high)

-- the lowest place of two numbers and a carry
lowest_place : (q s : ℕ) (carry : Bool) → ((q + s + bit_value carry) % 2 == 1) ≡ differ (differ (q % 2 == 1) carry) (s % 2 == 1)
lowest_place q s true = grind (arith, nat_tests)
lowest_place q s false = grind (arith, nat_tests)

-- a place of a number in two parts
place_above : (q r k : ℕ) → r < 2 ^ k → has_place k (q * 2 ^ k + r) ≡ (q % 2 == 1)
place_above q r k small =
    let none : k - k ≡ 0 = omega arith in
    ap (λ b. b == 1) (bit_at_cat_high q k r k small (omega arith) ∙ ap (bit_at q) none ∙ bit_at_lowest q)

place_parted : (x k : ℕ) → has_place k x ≡ (x / 2 ^ k % 2 == 1)
place_parted x k =
    let whole : x ≡ x / 2 ^ k * 2 ^ k + x % 2 ^ k = omega (arith, mod-add-div' x (2 ^ k)) in
    ap (λ m. bit_at m k == 1) whole ∙ place_above (x / 2 ^ k) (x % 2 ^ k) k (mod_below x (2 ^ k) (pow_pos k))

-- place k of a sum of two numbers, each in two parts
place_of_parts : (q s r t k : ℕ) → r < 2 ^ k → t < 2 ^ k
    → has_place k ((q * 2 ^ k + r) + (s * 2 ^ k + t)) ≡ ((q + s + bit_value (nat_le (2 ^ k) (r + t))) % 2 == 1)
place_of_parts q s r t k first second = elim (cases_lt (r + t) (2 ^ k)) [
  | inl low ↦
      let none : nat_le (2 ^ k) (r + t) ≡ false = grind (arith, nat_tests) in
      let m : ℕ = 2 ^ k in
      let whole : (q * m + r) + (s * m + t) ≡ (q + s + 0) * m + (r + t) = grind arith in
      ap (λ n. bit_at n k == 1) whole ∙ place_above (q + s + 0) (r + t) k low ∙ ap (λ c. (q + s + bit_value c) % 2 == 1) (sym none)
  | inr high ↦
      let one : nat_le (2 ^ k) (r + t) ≡ true = grind (arith, nat_tests) in
      let m : ℕ = 2 ^ k in
      let rest : r + t ≡ m + (r + t - m) = omega (arith, high) in
      let whole : (q * m + r) + (s * m + t) ≡ (q + s + 1) * m + (r + t - m) = grind arith in
      ap (λ n. bit_at n k == 1) whole ∙ place_above (q + s + 1) (r + t - m) k (omega (arith, first, second, high)) ∙ ap (λ c. (q + s + bit_value c) % 2 == 1) (sym one)
]

-- place k of a sum, by the carry into it
pub sum_place : (x y k : ℕ) → has_place k (x + y) ≡ differ (differ (has_place k x) (nat_le (2 ^ k) (x % 2 ^ k + y % 2 ^ k))) (has_place k y)
sum_place x y k =
    let m : ℕ = 2 ^ k in
    let first : x ≡ x / m * m + x % m = omega (arith, mod-add-div' x m) in
    let second : y ≡ y / m * m + y % m = omega (arith, mod-add-div' y m) in
    ap₂ (λ a b. has_place k (a + b)) first second
    ∙ place_of_parts (x / m) (y / m) (x % m) (y % m) k (mod_below x m (pow_pos k)) (mod_below y m (pow_pos k))
    ∙ lowest_place (x / m) (y / m) (nat_le m (x % m + y % m))
    ∙ ap₂ (λ a b. differ (differ a (nat_le m (x % m + y % m))) b) (sym (place_parted x k)) (sym (place_parted y k))

-- the carry out of place k
pub sum_carry : (x y k : ℕ) → (if has_place k y then has_place k x || nat_le (2 ^ k) (x % 2 ^ k + y % 2 ^ k) else has_place k x && nat_le (2 ^ k) (x % 2 ^ k + y % 2 ^ k))
    ≡ nat_le (2 ^ (k + 1)) (x % 2 ^ (k + 1) + y % 2 ^ (k + 1))
sum_carry x y k =
    let m : ℕ = 2 ^ k in
    let double : 2 * m ≡ 2 ^ (k + 1) = omega (arith, pow-add 2 k 1) in
    let a : ℕ = bit_value (has_place k x) * m in
    let b : ℕ = bit_value (has_place k y) * m in
    let total : (x % m + y % m) + a + b ≡ x % 2 ^ (k + 1) + y % 2 ^ (k + 1) = omega (arith, places_more x k, places_more y k) in
    carry_more (x % m + y % m) m (has_place k x) (has_place k y) (pow_pos k) (omega (arith, mod_below x m (pow_pos k), mod_below y m (pow_pos k)))
    ∙ ap₂ nat_le double total

-- no carry into the least place
pub no_carry : (x y : ℕ) → nat_le (2 ^ 0) (x % 2 ^ 0 + y % 2 ^ 0) ≡ false
no_carry x y = let none : x % 1 + y % 1 ≡ 0 = omega arith in ap (nat_le 1) none

-- nor into the places below those that are added
pub no_carry_raised : (x y by : ℕ) → nat_le (2 ^ by) (y % 2 ^ by + (x * 2 ^ by) % 2 ^ by) ≡ false
no_carry_raised x y by =
    let m : ℕ = 2 ^ by in
    let none : (x * m) % m ≡ 0 = mul-mod_left x m in
    let low : y % m + (x * m) % m < m = omega (arith, none, mod_below y m (pow_pos by)) in
    grind (arith, nat_tests)

-- places of a sum below those that are added are as they were
pub low_place : (x y by k : ℕ) → k < by → has_place k (y + x * 2 ^ by) ≡ has_place k y
low_place x y by k low =
    let turned : y + x * 2 ^ by ≡ x * 2 ^ by + y = omega arith in
    ap (λ m. bit_at m k == 1) turned ∙ ap (λ b. b == 1) (bit_at_cat_low x by y k low)

-- a place as it is read
pub place_one : (n k : ℕ) → bit_and (n / 2 ^ k) 1 ≡ 1 → has_place k n ≡ true
place_one n k one = let read : bit_at n k ≡ 1 = sym (shr_and_one n k) ∙ one in grind (arith, nat_tests)

pub place_none : (n k : ℕ) → bit_and (n / 2 ^ k) 1 ≢ 1 → has_place k n ≡ false
place_none n k none = let read : bit_at n k ≢ 1 = λ one. none (shr_and_one n k ∙ one) in grind (arith, nat_tests)

-- so many times a number, by one place more
pub times_more : (x t k : ℕ) (one : Bool) → has_place k t ≡ one → x * (t % 2 ^ k) + x * (bit_value one * 2 ^ k) ≡ x * (t % 2 ^ (k + 1))
times_more x t k one is =
    let a : ℕ = t % 2 ^ k in
    let b : ℕ = bit_value one * 2 ^ k in
    let parts : x * a + x * b ≡ x * (a + b) = grind arith in
    parts ∙ ap (λ n. x * n) (ap (λ p. a + bit_value p * 2 ^ k) (sym is) ∙ sym (places_more t k))
