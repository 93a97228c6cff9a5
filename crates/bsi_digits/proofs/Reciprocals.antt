-- A quotient by a multiplication: the reciprocal is exact enough for each number below 2 ^ 63.
use Rattle.std.proofs.Common.{◌≡◌, ℕ, ◌+◌, ◌-◌, ◌*◌, ◌/◌, ◌%◌, ◌^◌, ◌<◌, ◌≤◌, sym, ◌∙◌, ap, subst, arith, ◌⊎◌, inl, inr}
use Rattle.std.proofs.lemmas.Bool.{cases_lt}
use Rattle.std.proofs.lemmas.Nat.{leading_length, pow-add, div_below, div-mul-add, div-add-mod', mod_below, mul-le}
use Rattle.std.proofs.Math.Nat.{div-div-eq-div-mul, mul-le-mul_right, le_of_mul-le-mul_right, pow-le-pow_right}
use Rattle.bsi_digits.specs.Divisor.{shift_of, reciprocal_of}

-- the power of two that a shift stands for
pub record IsPower (d shift : ℕ) : Type 0 where
  pub high : d ≤ 2 ^ shift
  pub low : 2 ^ shift < 2 * d
  pub few : shift ≤ 63

shift_few_by : (shift d : ℕ) → d ≤ 2 ^ 63 → 2 ^ shift < 2 * d → (63 < shift) ⊎ (shift ≤ 63) → shift ≤ 63
shift_few_by shift d small low (inr few) = few
shift_few_by shift d small low (inl many) =
    let large : 2 ^ 64 ≤ 2 ^ shift = pow-le-pow_right (omega arith) many in
    absurd (omega arith)

shift_few : (shift d : ℕ) → d ≤ 2 ^ 63 → 2 ^ shift < 2 * d → shift ≤ 63
shift_few shift d small low = shift_few_by shift d small low (cases_lt 63 shift)

pub IsPower-shift_of : (d : ℕ) → 1 ≤ d → d ≤ 2 ^ 63 → IsPower d (shift_of d)
IsPower-shift_of d some small =
    let power = leading_length 64 (d - 1) (omega arith) in
    let same : power.0 ≡ shift_of d = omega arith in
    let one_less : IsPower d power.0 = record {
      high = omega (arith, power.2);
      low = omega (arith, power.3);
      few = shift_few power.0 d small (omega (arith, power.3));
    } in
    subst (λ n. IsPower d n) same one_less

-- the parts of one, as many times 2 ^ 63 as the power is large
parts : (shift : ℕ) → 2 ^ (63 + shift) ≡ 2 ^ 63 * 2 ^ shift
parts shift = pow-add 2 63 shift

-- rounding up: between the parts and less than a divisor more
rounded_up : (u d : ℕ) → 1 ≤ d → (u ≤ (u + d - 1) / d * d) × ((u + d - 1) / d * d < u + d)
rounded_up u d some =
    let whole : (u + d - 1) / d * d + (u + d - 1) % d ≡ u + d - 1 = div-add-mod' (u + d - 1) d in
    let rest : (u + d - 1) % d < d = mod_below (u + d - 1) d some in
    (omega arith, omega arith)

-- the parts and a divisor more fit 128 bits, and the reciprocal fits 64
pub parts_small : (d : ℕ) → 1 ≤ d → d ≤ 2 ^ 63 → 2 ^ (63 + shift_of d) ≤ 2 ^ 126
parts_small d some small =
    let few : shift_of d ≤ 63 = (IsPower-shift_of d some small).few in
    let less : 63 + shift_of d ≤ 126 = omega arith in
    pow-le-pow_right (omega arith) less

pub reciprocal_small : (d : ℕ) → 1 ≤ d → d ≤ 2 ^ 63 → reciprocal_of d < 2 ^ 64
reciprocal_small d some small =
    let power : IsPower d (shift_of d) = IsPower-shift_of d some small in
    let split : 2 ^ (63 + shift_of d) ≡ 2 ^ 63 * 2 ^ shift_of d = parts (shift_of d) in
    let low : 2 ^ shift_of d < 2 * d = power.low in
    div_below (2 ^ (63 + shift_of d) + d - 1) d (2 ^ 64) some (omega arith)

-- v times m times d, where m times d is e above u
spread : (v d m u e : ℕ) → m * d ≡ u + e → v * m * d ≡ v * u + v * e
spread v d m u e above =
    let turned : v * m * d ≡ v * (m * d) = omega arith in
    turned ∙ ap (λ n. v * n) above ∙ omega arith

scaled_low : (v d m u e q r : ℕ) → v ≡ q * d + r → r < d → m * d ≡ u + e → q * u ≤ v * m
scaled_low v d m u e q r parts_of rest above =
    let whole : v * m * d ≡ v * u + v * e = spread v d m u e above in
    let below : q * d * u ≤ v * u = mul-le-mul_right u (omega arith) in
    let scaled : q * u * d ≤ v * m * d = omega arith in
    le_of_mul-le-mul_right scaled (omega arith)

scaled_high_by : (v d m u e q r : ℕ) → v ≡ q * d + r → r < d → m * d ≡ u + e → v * e < u →
    (v * m < (q + 1) * u) ⊎ ((q + 1) * u ≤ v * m) → v * m < (q + 1) * u
scaled_high_by v d m u e q r parts_of rest above close (inl less) = less
scaled_high_by v d m u e q r parts_of rest above close (inr more) =
    let whole : v * m * d ≡ v * u + v * e = spread v d m u e above in
    let scaled : (q + 1) * u * d ≤ v * m * d = mul-le-mul_right d more in
    let next : (v + 1) * u ≤ (q + 1) * d * u = mul-le-mul_right u (omega arith) in
    absurd (omega arith)

-- a quotient by a multiplication with m, which is u over d, where d times m is above u by so little that v times it stays
-- below u
scaled_quotient : (v d m u e : ℕ) → 1 ≤ d → m * d ≡ u + e → v * e < u → v * m / u ≡ v / d
scaled_quotient v d m u e some above close =
    let whole : v ≡ v / d * d + v % d = sym (div-add-mod' v d) in
    let rest : v % d < d = mod_below v d some in
    let low : v / d * u ≤ v * m = scaled_low v d m u e (v / d) (v % d) whole rest above in
    let high : v * m < (v / d + 1) * u =
    scaled_high_by v d m u e (v / d) (v % d) whole rest above close (cases_lt (v * m) ((v / d + 1) * u)) in
    let split : v * m ≡ v / d * u + (v * m - v / d * u) = omega arith in
    ap (λ n. n / u) split ∙ div-mul-add (v / d) u (v * m - v / d * u) (omega arith)

pub quotient_by_reciprocal : (v d : ℕ) → 1 ≤ d → d ≤ 2 ^ 63 → v < 2 ^ 63 →
    v * reciprocal_of d / 2 ^ 63 / 2 ^ shift_of d ≡ v / d
quotient_by_reciprocal v d some small below =
    let power : IsPower d (shift_of d) = IsPower-shift_of d some small in
    let split : 2 ^ (63 + shift_of d) ≡ 2 ^ 63 * 2 ^ shift_of d = parts (shift_of d) in
    let near = rounded_up (2 ^ (63 + shift_of d)) d some in
    let high : d ≤ 2 ^ shift_of d = power.high in
    let error : reciprocal_of d * d - 2 ^ (63 + shift_of d) ≤ 2 ^ shift_of d = omega (arith, near.1) in
    let bounded : v * (reciprocal_of d * d - 2 ^ (63 + shift_of d)) ≤ (2 ^ 63 - 1) * 2 ^ shift_of d =
    mul-le v (reciprocal_of d * d - 2 ^ (63 + shift_of d)) (2 ^ 63 - 1) (2 ^ shift_of d) (omega arith) error in
    div-div-eq-div-mul (v * reciprocal_of d) (2 ^ 63) (2 ^ shift_of d) ∙
    ap (λ n. v * reciprocal_of d / n) (sym split) ∙
    scaled_quotient v d (reciprocal_of d) (2 ^ (63 + shift_of d)) (reciprocal_of d * d - 2 ^ (63 + shift_of d)) some
    (omega (arith, near.0)) (omega arith)
