-- Six exchanges, of which each has its weight, turn 64 words.
use Rattle.std.proofs.Common.{◌≡◌, ℕ, zero, suc, ◌+◌, ◌-◌, ◌*◌, ◌/◌, ◌%◌, ◌<◌, List, get_or, inl, inr, ap, ap₂, ◌∙◌, refl, arith}
use Rattle.std.specs.Int.{bit_at}
use Rattle.std.proofs.lemmas.Bool.{cases_eq}
use Rattle.bsi_slices.specs.Exchanges.{across, IsLow}

-- the weights of the six exchanges
across_1 : (k r : ℕ) → across 1 k r ≡ k / 2 * 2 + r % 2
across_1 k r = omega arith

across_2 : (k r i t : ℕ) → i ≡ k / 2 * 2 + r % 2 → t ≡ r / 2 * 2 + k % 2 → across 2 i t ≡ k / 4 * 4 + r % 4
across_2 k r i t row place = omega arith

across_4 : (k r i t : ℕ) → i ≡ k / 4 * 4 + r % 4 → t ≡ r / 4 * 4 + k % 4 → across 4 i t ≡ k / 8 * 8 + r % 8
across_4 k r i t row place = omega arith

across_8 : (k r i t : ℕ) → i ≡ k / 8 * 8 + r % 8 → t ≡ r / 8 * 8 + k % 8 → across 8 i t ≡ k / 16 * 16 + r % 16
across_8 k r i t row place = omega arith

across_16 : (k r i t : ℕ) → i ≡ k / 16 * 16 + r % 16 → t ≡ r / 16 * 16 + k % 16 → across 16 i t ≡ k / 32 * 32 + r % 32
across_16 k r i t row place = omega arith

across_32 : (k r i t : ℕ) → k < 64 → r < 64 → i ≡ k / 32 * 32 + r % 32 → t ≡ r / 32 * 32 + k % 32 → across 32 i t ≡ r
across_32 k r i t row_near place_near row place = omega arith

abbrev pub Exchanged : ℕ → List ℕ → List ℕ → Type 0
Exchanged s old now = (k r : ℕ) → k < 64 → r < 64 → bit_at (get_or now k 0) r ≡ bit_at (get_or old (across s k r) 0) (across s r k)

-- six exchanges turn 64 words
pub turned_by_six : (w0 w1 w2 w3 w4 w5 w6 : List ℕ) → Exchanged 32 w0 w1 → Exchanged 16 w1 w2 → Exchanged 8 w2 w3 → Exchanged 4 w3 w4 → Exchanged 2 w4 w5 → Exchanged 1 w5 w6 →
    (k r : ℕ) → k < 64 → r < 64 → bit_at (get_or w6 k 0) r ≡ bit_at (get_or w0 r 0) k
turned_by_six w0 w1 w2 w3 w4 w5 w6 by_32 by_16 by_8 by_4 by_2 by_1 k r row place =
    let k1 = across 1 k r in
    let r1 = across 1 r k in
    let row_1 = across_1 k r in
    let place_1 = across_1 r k in
    let k2 = across 2 k1 r1 in
    let r2 = across 2 r1 k1 in
    let row_2 = across_2 k r k1 r1 row_1 place_1 in
    let place_2 = across_2 r k r1 k1 place_1 row_1 in
    let k3 = across 4 k2 r2 in
    let r3 = across 4 r2 k2 in
    let row_3 = across_4 k r k2 r2 row_2 place_2 in
    let place_3 = across_4 r k r2 k2 place_2 row_2 in
    let k4 = across 8 k3 r3 in
    let r4 = across 8 r3 k3 in
    let row_4 = across_8 k r k3 r3 row_3 place_3 in
    let place_4 = across_8 r k r3 k3 place_3 row_3 in
    let k5 = across 16 k4 r4 in
    let r5 = across 16 r4 k4 in
    let row_5 = across_16 k r k4 r4 row_4 place_4 in
    let place_5 = across_16 r k r4 k4 place_4 row_4 in
    let row_6 = across_32 k r k5 r5 row place row_5 place_5 in
    let place_6 = across_32 r k r5 k5 place row place_5 row_5 in
    by_1 k r row place
    ∙ by_2 k1 r1 (omega (arith, row_1)) (omega (arith, place_1))
    ∙ by_4 k2 r2 (omega (arith, row_2)) (omega (arith, place_2))
    ∙ by_8 k3 r3 (omega (arith, row_3)) (omega (arith, place_3))
    ∙ by_16 k4 r4 (omega (arith, row_4)) (omega (arith, place_4))
    ∙ by_32 k5 r5 (omega (arith, row_5)) (omega (arith, place_5))
    ∙ ap₂ (λ i t. bit_at (get_or w0 i 0) t) row_6 place_6

-- in how many of the first n places a word doesn't say whether the place of that weight is 0
misses : ℕ → ℕ → ℕ → ℕ
misses s word zero = 0
misses s word (suc n) = misses s word n + (bit_at word n + n / s % 2 - 1) + (1 - (bit_at word n + n / s % 2))

no_misses : (s word n : ℕ) → misses s word n ≡ 0 → (i : ℕ) → i < n → bit_at word i + i / s % 2 ≡ 1
unfolding misses
no_misses s word zero clear i below = absurd (omega arith)
no_misses s word (suc n) clear i below = elim (cases_eq i n) [
  | inl same ↦ ap (λ j. bit_at word j + j / s % 2) same ∙ omega (arith, clear)
  | inr apart ↦ no_misses s word n (omega (arith, clear)) i (omega arith)
]

-- the places below that weight, for each of the six
pub low_32 : IsLow 32 4294967295
unfolding misses
low_32 = no_misses 32 4294967295 64 refl

pub low_16 : IsLow 16 281470681808895
unfolding misses
low_16 = no_misses 16 281470681808895 64 refl

pub low_8 : IsLow 8 71777214294589695
unfolding misses
low_8 = no_misses 8 71777214294589695 64 refl

pub low_4 : IsLow 4 1085102592571150095
unfolding misses
low_4 = no_misses 4 1085102592571150095 64 refl

pub low_2 : IsLow 2 3689348814741910323
unfolding misses
low_2 = no_misses 2 3689348814741910323 64 refl

pub low_1 : IsLow 1 6148914691236517205
unfolding misses
low_1 = no_misses 1 6148914691236517205 64 refl
