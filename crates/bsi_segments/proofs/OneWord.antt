-- A change of one word changes the checksum.
use Rattle.std.proofs.Common.{◌≡◌, ℕ, suc, ◌+◌, ◌*◌, ◌/◌, ◌%◌, ◌^◌, ◌<◌, List, [], ◌∷◌, ◌++◌, length, get_or, refl, sym, ap, ◌∙◌, arith, length-append}
use Rattle.std.specs.Prelude.{◌==◌, bit_or, bit_xor}
use Rattle.std.specs.Int.{bit_at, rotate_left, w64}
use Rattle.std.proofs.lemmas.Nat.{mod_below, mod-mul-add, mul-mod_first, or_shifted, xor_comm, xor_lt}
use Rattle.std.proofs.lemmas.Nat.Bits.{bit_at-lt, bit_at_xor}
use Rattle.bsi_segments.specs.Segments.{checksum_from, checksum_of, checksum_step, multiplier}
use Rattle.bsi_segments.proofs.Packing.{value_is}
use Rattle.bsi_segments.proofs.Unique.{step_fits, sum_fits}

-- ---- each step of it is one to one

-- of two words that give the same with a third
xor_same : (s w v : ℕ) → w < 2 ^ 64 → v < 2 ^ 64 → bit_xor s w ≡ bit_xor s v → w ≡ v
xor_same s w v small below same =
    value_is 64 (λ i. bit_at w i == 1) w small (λ i within. refl)
    ∙ sym (value_is 64 (λ i. bit_at w i == 1) v below (λ i within. ap (λ b. b == 1) (sym (at i))))
  where
    at : (i : ℕ) → bit_at w i ≡ bit_at v i
    at i =
        let both : (bit_at s i + bit_at w i) % 2 ≡ (bit_at s i + bit_at v i) % 2 = sym (bit_at_xor s w i) ∙ ap (λ x. bit_at x i) same ∙ bit_at_xor s v i in
        omega (arith, both, bit_at-lt w i, bit_at-lt v i)

-- the number by which the multiplier is 1, of 64 bits
abbrev inverse : ℕ
inverse = 17428512612931826493

abbrev turns : ℕ
turns = 10771413168148108919

undone : (x : ℕ) → x < 2 ^ 64 → x * multiplier % 2 ^ 64 * inverse % 2 ^ 64 ≡ x
undone x small =
    let whole : x * multiplier * inverse ≡ x * turns * 2 ^ 64 + x = omega arith in
    mul-mod_first (x * multiplier) inverse (2 ^ 64) ∙ ap (λ n. n % 2 ^ 64) whole ∙ mod-mul-add (x * turns) (2 ^ 64) x small

product_same : (x y : ℕ) → x < 2 ^ 64 → y < 2 ^ 64 → x * multiplier % 2 ^ 64 ≡ y * multiplier % 2 ^ 64 → x ≡ y
product_same x y small below same = sym (undone x small) ∙ ap (λ p. p * inverse % 2 ^ 64) same ∙ undone y below

rotated : (p : ℕ) → p < 2 ^ 64 → rotate_left w64 p 29 ≡ p % 2 ^ 35 * 2 ^ 29 + p / 2 ^ 35
rotated p small =
    let whole : p * 2 ^ 29 ≡ p / 2 ^ 35 * 2 ^ 64 + p % 2 ^ 35 * 2 ^ 29 = omega arith in
    let low : p * 2 ^ 29 % 2 ^ 64 ≡ p % 2 ^ 35 * 2 ^ 29 = ap (λ n. n % 2 ^ 64) whole ∙ mod-mul-add (p / 2 ^ 35) (2 ^ 64) (p % 2 ^ 35 * 2 ^ 29) (omega arith) in
    ap (λ n. bit_or n (p / 2 ^ 35)) low ∙ or_shifted (p % 2 ^ 35) 29 (p / 2 ^ 35) (omega arith)

rotation_same : (p r : ℕ) → p < 2 ^ 64 → r < 2 ^ 64 → rotate_left w64 p 29 ≡ rotate_left w64 r 29 → p ≡ r
rotation_same p r small below same = omega (arith, sym (rotated p small) ∙ same ∙ rotated r below)

step_same : (x y : ℕ) → x < 2 ^ 64 → y < 2 ^ 64 → rotate_left w64 (x * multiplier % 2 ^ 64) 29 ≡ rotate_left w64 (y * multiplier % 2 ^ 64) 29 → x ≡ y
step_same x y small below same =
    product_same x y small below
    (rotation_same (x * multiplier % 2 ^ 64) (y * multiplier % 2 ^ 64) (mod_below (x * multiplier) (2 ^ 64) (omega arith)) (mod_below (y * multiplier) (2 ^ 64) (omega arith)) same)

pub word_same : (s w v : ℕ) → s < 2 ^ 64 → w < 2 ^ 64 → v < 2 ^ 64 → checksum_step s w ≡ checksum_step s v → w ≡ v
word_same s w v fits small below same = xor_same s w v small below (step_same (bit_xor s w) (bit_xor s v) (xor_lt 64 s w fits small) (xor_lt 64 s v fits below) same)

pub sum_same : (s t w : ℕ) → s < 2 ^ 64 → t < 2 ^ 64 → w < 2 ^ 64 → checksum_step s w ≡ checksum_step t w → s ≡ t
sum_same s t w small below fits same =
    xor_same w s t small below (xor_comm w s ∙ step_same (bit_xor s w) (bit_xor t w) (xor_lt 64 s w small fits) (xor_lt 64 t w below fits) same ∙ xor_comm t w)

-- ---- and so is all of it

pub back_same : (s t : ℕ) (words : List ℕ) → s < 2 ^ 64 → t < 2 ^ 64 → ((k : ℕ) → get_or words k 0 < 2 ^ 64) → checksum_from s words ≡ checksum_from t words → s ≡ t
unfolding checksum_from
back_same s t [] small below fits same = same
back_same s t (w ∷ words) small below fits same =
    sum_same s t w small below (fits 0) (back_same (checksum_step s w) (checksum_step t w) words (step_fits s w) (step_fits t w) (λ k. fits (suc k)) same)

sum_split : (s : ℕ) (front back : List ℕ) → checksum_from s (front ++ back) ≡ checksum_from (checksum_from s front) back
unfolding checksum_from
sum_split s [] back = refl
sum_split s (w ∷ front) back = sum_split (checksum_step s w) front back

next_sum : (s w : ℕ) (back : List ℕ) → checksum_from s (w ∷ back) ≡ checksum_from (checksum_step s w) back
unfolding checksum_from
next_sum s w back = refl

-- words that are the same but for one word have the same checksum only if that is the same too
pub one_word_known : (front back : List ℕ) (w v : ℕ) → length (front ++ w ∷ back) < 2 ^ 64 → w < 2 ^ 64 → v < 2 ^ 64 → ((k : ℕ) → get_or back k 0 < 2 ^ 64)
    → checksum_of (front ++ w ∷ back) ≡ checksum_of (front ++ v ∷ back) → w ≡ v
one_word_known front back w v few small below fits same =
    let n = length (front ++ w ∷ back) in
    let long : length (front ++ v ∷ back) ≡ n = length-append front (v ∷ back) ∙ sym (length-append front (w ∷ back)) in
    let s = checksum_from n front in
    let middle : checksum_from (checksum_step s w) back ≡ checksum_from (checksum_step s v) back =
    sym (sum_split n front (w ∷ back) ∙ next_sum s w back) ∙ same ∙ ap (λ m. checksum_from m (front ++ v ∷ back)) long ∙ sum_split n front (v ∷ back) ∙ next_sum s v back in
    word_same s w v (sum_fits n front few) small below (back_same (checksum_step s w) (checksum_step s v) back (step_fits s w) (step_fits s v) fits middle)
