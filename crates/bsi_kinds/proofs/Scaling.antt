-- Digits at more or fewer places.
use Rattle.std.proofs.Common.{◌≡◌, ℕ, zero, suc, ◌+◌, ◌-◌, ◌*◌, ◌/◌, ◌%◌, ◌^◌, ◌<◌, ◌≤◌, inl, inr, min, List, [], ◌∷◌, length, ◌∙◌, ap, arith, sym}
use Rattle.std.proofs.Math.Nat.{mul-div_cancel, mul-mod_left, one-le-pow, pow-suc, le-mul_of_pos_right, mul_assoc, mul_comm, mul-le-mul_right}
use Rattle.std.proofs.lemmas.Nat.{pow-add, div-mul-add, mod-mul-add}
use Rattle.std.proofs.lemmas.Bool.{cases_lt}
use Rattle.std.specs.Char.{digit_value}
use Rattle.std.specs.Str.Parse.{digits_value_after, digits_value}

spread : (n d p v : ℕ) → (n * 10 + d) * p + v ≡ n * (p * 10) + ((0 * 10 + d) * p + v)
spread n d p v = omega arith

-- what the digits behind a number come to
pub value_after_is : (n : ℕ) (ds : List ℕ) → digits_value_after 10 n ds ≡ n * 10 ^ length ds + digits_value 10 ds
value_after_is n [] = omega arith
value_after_is n (d ∷ ds) =
    value_after_is (n * 10 + digit_value d) ds ∙ spread n (digit_value d) (10 ^ length ds) (digits_value 10 ds)
    ∙ ap (λ p. n * p + ((0 * 10 + digit_value d) * 10 ^ length ds + digits_value 10 ds)) (sym (pow-suc 10 (length ds)))
    ∙ ap (λ v. n * 10 ^ suc (length ds) + v) (sym (value_after_is (0 * 10 + digit_value d) ds))

-- a number does not get smaller
pub le_value_after : (n : ℕ) (ds : List ℕ) → n ≤ digits_value_after 10 n ds
le_value_after n [] = omega arith
le_value_after n (d ∷ ds) = let more = le_value_after (n * 10 + digit_value d) ds in omega arith

-- a number that stands for greater ones stays one
pub value_after_capped : (n m : ℕ) (ds : List ℕ) → min (digits_value_after 10 (min n m) ds) m ≡ min (digits_value_after 10 n ds) m
value_after_capped n m ds = elim (cases_lt n m) [
  | inl small ↦ (let same : min n m ≡ n = omega arith in ap (λ k. min (digits_value_after 10 k ds) m) same)
  | inr large ↦ (let same : min n m ≡ m = omega arith in
      ap (λ k. min (digits_value_after 10 k ds) m) same ∙ omega (arith, le_value_after m ds, le_value_after n ds))
]

pub times_capped : (n m k : ℕ) → 0 < k → min (min n m * k) m ≡ min (n * k) m
times_capped n m k some = elim (cases_lt n m) [
  | inl small ↦ (let same : min n m ≡ n = omega arith in ap (λ j. min (j * k) m) same)
  | inr large ↦ (let same : min n m ≡ m = omega arith in
      ap (λ j. min (j * k) m) same ∙ omega (arith, le-mul_of_pos_right m some, le-mul_of_pos_right n some))
]

pub capped_times : (n m k : ℕ) → min (n * min k m) m ≡ min (n * k) m
capped_times zero m k = omega arith
capped_times (suc n) m k =
    ap (λ j. min j m) (mul_comm (suc n) (min k m)) ∙ times_capped k m (suc n) (omega arith) ∙ ap (λ j. min j m) (mul_comm k (suc n))

-- ten to a power is some number
pub ten_some : (k : ℕ) → 0 < 10 ^ k
ten_some k = one-le-pow k 10 (omega arith)

ten_split : (k p : ℕ) → k ≤ p → 10 ^ p ≡ 10 ^ (p - k) * 10 ^ k
ten_split k p few = let e : p ≡ (p - k) + k = omega arith in ap (λ j. 10 ^ j) e ∙ pow-add 10 (p - k) k

-- digits at more places: nothing is left
pub scaled_up : (v k p : ℕ) → k ≤ p → v * 10 ^ p / 10 ^ k ≡ v * 10 ^ (p - k)
scaled_up v k p few =
    ap (λ j. v * j / 10 ^ k) (ten_split k p few)
    ∙ ap (λ j. j / 10 ^ k) (sym (mul_assoc v (10 ^ (p - k)) (10 ^ k)))
    ∙ mul-div_cancel (v * 10 ^ (p - k)) (ten_some k)

pub nothing_left : (v k p : ℕ) → k ≤ p → v * 10 ^ p % 10 ^ k ≡ 0
nothing_left v k p few =
    ap (λ j. v * j % 10 ^ k) (ten_split k p few)
    ∙ ap (λ j. j % 10 ^ k) (sym (mul_assoc v (10 ^ (p - k)) (10 ^ k)))
    ∙ mul-mod_left (v * 10 ^ (p - k)) (10 ^ k)

-- digits at fewer places: the last ones are left
down_is : (a b k p : ℕ) → p ≤ k → (a * 10 ^ (k - p) + b) * 10 ^ p ≡ a * 10 ^ k + b * 10 ^ p
down_is a b k p few =
    let split = ten_split p k few in
    let one : a * 10 ^ k ≡ a * 10 ^ (k - p) * 10 ^ p = ap (λ j. a * j) split ∙ sym (mul_assoc a (10 ^ (k - p)) (10 ^ p)) in
    omega (arith, one)

down_below : (b k p : ℕ) → p ≤ k → b < 10 ^ (k - p) → b * 10 ^ p < 10 ^ k
down_below b k p few low =
    let split = ten_split p k few in
    let less : (b + 1) * 10 ^ p ≤ 10 ^ (k - p) * 10 ^ p = mul-le-mul_right (10 ^ p) (omega arith) in
    omega (arith, split, less, ten_some p)

pub scaled_down : (a b k p : ℕ) → p ≤ k → b < 10 ^ (k - p) → (a * 10 ^ (k - p) + b) * 10 ^ p / 10 ^ k ≡ a
scaled_down a b k p few low = ap (λ j. j / 10 ^ k) (down_is a b k p few) ∙ div-mul-add a (10 ^ k) (b * 10 ^ p) (down_below b k p few low)

pub left_over : (a b k p : ℕ) → p ≤ k → b < 10 ^ (k - p) → (a * 10 ^ (k - p) + b) * 10 ^ p % 10 ^ k ≡ b * 10 ^ p
left_over a b k p few low = ap (λ j. j % 10 ^ k) (down_is a b k p few) ∙ mod-mul-add a (10 ^ k) (b * 10 ^ p) (down_below b k p few low)
