-- The bits of a word that is put together of bytes, and which entries it tells to be there.
use Rattle.std.proofs.Common.{◌≡◌, ℕ, ◌+◌, ◌*◌, ◌-◌, ◌/◌, ◌%◌, ◌^◌, ◌<◌, ◌≤◌, true, false, List, length, take, drop, get_or, nat_eq, nat_le, bit_and, bit_or, inl, inr, ap, ap₂, sym, subst, ◌∙◌, arith}
use Rattle.std.specs.Prelude.{◌==◌, ◌||◌, ◌&&◌, max, min}
use Rattle.std.specs.Int.{bit_at}
use Rattle.std.proofs.lemmas.Bool.{cases_lt}
use Rattle.std.proofs.lemmas.Bool.Decides.{nat_tests}
use Rattle.std.proofs.lemmas.List.{get_or-drop, get_or-take}
use Rattle.std.proofs.lemmas.Nat.{and_le_r, or_lt, pow_below, pow_pos, shl_below, shl_whole}
use Rattle.std.proofs.lemmas.Nat.Bits.{bit_at-lt, bit_at-zero, bit_at_above, bit_at_and, bit_at_cat_high, bit_at_cat_low, bit_at_ones, bit_at_or, ones_shr}
use Rattle.bsi_ffi.specs.Columns.{IsNotNullWord}

-- the bits of the first i bytes stand in a word, and one byte more is put above them
module _ (bytes : List ℕ) (i word byte : ℕ) (few : i < 8) (is : get_or bytes i 0 ≡ byte) (small : byte < 2 ^ 8) (clear : word < 2 ^ (8 * i))
    (bits : (r : ℕ) → r < 8 * i → bit_at word r ≡ bit_at (get_or bytes (r / 8) 0) (r % 8)) where
  shifted : byte * 2 ^ (8 * i) % 2 ^ 64 ≡ byte * 2 ^ (8 * i)
  shifted = shl_whole byte 8 (8 * i) 64 small (omega arith)

  pub byte_above-clear : bit_or word (byte * 2 ^ (8 * i) % 2 ^ 64) < 2 ^ (8 * (i + 1))
  byte_above-clear =
      let places : 8 + 8 * i ≡ 8 * (i + 1) = omega arith in
      let below = pow_below (8 * i) (8 * (i + 1)) (omega arith) in
      or_lt (8 * (i + 1)) word (byte * 2 ^ (8 * i) % 2 ^ 64) (omega (arith, clear, below))
      (subst (λ n. n < 2 ^ (8 * (i + 1))) (sym shifted) (subst (λ n. byte * 2 ^ (8 * i) < 2 ^ n) places (shl_below byte 8 (8 * i) small)))

  both : (r : ℕ) → bit_at (bit_or word (byte * 2 ^ (8 * i) % 2 ^ 64)) r ≡ max (bit_at word r) (bit_at (byte * 2 ^ (8 * i) + 0) r)
  both r =
      let plain : byte * 2 ^ (8 * i) % 2 ^ 64 ≡ byte * 2 ^ (8 * i) + 0 = omega (arith, shifted) in
      bit_at_or word (byte * 2 ^ (8 * i) % 2 ^ 64) r ∙ ap (λ n. max (bit_at word r) (bit_at n r)) plain

  pub byte_above-bits : (r : ℕ) → r < 8 * (i + 1) → bit_at (bit_or word (byte * 2 ^ (8 * i) % 2 ^ 64)) r ≡ bit_at (get_or bytes (r / 8) 0) (r % 8)
  byte_above-bits r within = elim (cases_lt r (8 * i)) [
    | inl low ↦
        let none : bit_at (byte * 2 ^ (8 * i) + 0) r ≡ 0 = bit_at_cat_low byte (8 * i) 0 r low ∙ bit_at-zero r in
        both r ∙ ap (λ b. max (bit_at word r) b) none ∙ omega arith ∙ bits r low
    | inr high ↦
        let none : bit_at word r ≡ 0 = bit_at_above word (8 * i) r clear high in
        let byte_is : r / 8 ≡ i = omega (arith, high, within) in
        let place : r - 8 * i ≡ r % 8 = omega (arith, high, within) in
        let some = bit_at_cat_high byte (8 * i) 0 r (omega (arith, none, clear)) high in
        both r ∙ ap₂ max none (some ∙ ap (bit_at byte) place) ∙ omega arith ∙ ap (λ n. bit_at n (r % 8)) (sym is ∙ ap (λ k. get_or bytes k 0) (sym byte_is))
  ]

-- the first bits of a word that has those of a bitmap from a byte on
pub bit_from : (valid : List ℕ) (from n r : ℕ) → from % 64 ≡ 0 → r < 8 * n
    → bit_at (get_or (take n (drop (from / 8) valid)) (r / 8) 0) (r % 8) ≡ bit_at (get_or valid ((from + r) / 8) 0) ((from + r) % 8)
bit_from valid from n r first within =
    let byte : from / 8 + r / 8 ≡ (from + r) / 8 = omega (arith, first) in
    let place : r % 8 ≡ (from + r) % 8 = omega (arith, first) in
    ap₂ bit_at
    (get_or-take n (drop (from / 8) valid) (r / 8) 0 (omega (arith, within)) ∙ get_or-drop (from / 8) valid (r / 8) 0 ∙ ap (λ k. get_or valid k 0) byte) place

module _ (valid : List ℕ) (from count : ℕ) where
  -- all are there
  pub all_there : nat_eq (length valid) 0 ≡ true → IsNotNullWord valid from count (2 ^ count - 1)
  all_there none = record {
    there = λ r within. ap (λ b. b == 1) (bit_at_ones count r within) ∙ sym (ap (λ b. b || (bit_at (get_or valid ((from + r) / 8) 0) ((from + r) % 8) == 1)) none);
    clear = omega (arith, pow_pos count);
  }

  -- those are there of which the bitmap has the bit
  pub some_there : (word : ℕ) → nat_eq (length valid) 0 ≡ false
      → ((r : ℕ) → r < count → bit_at word r ≡ bit_at (get_or valid ((from + r) / 8) 0) ((from + r) % 8)) → IsNotNullWord valid from count (bit_and word (2 ^ count - 1))
  some_there word some bits = record {
    there = λ r within.
        let bit : bit_at (bit_and word (2 ^ count - 1)) r ≡ bit_at word r =
        bit_at_and word (2 ^ count - 1) r ∙ ap (min (bit_at word r)) (bit_at_ones count r within) ∙ omega (arith, bit_at-lt word r) in
        ap (λ b. b == 1) (bit ∙ bits r within) ∙ sym (ap (λ b. b || (bit_at (get_or valid ((from + r) / 8) 0) ((from + r) % 8) == 1)) some);
    clear = omega (arith, and_le_r word (2 ^ count - 1), pow_pos count);
  }

-- a word of so many ones
pub low_ones : (count : ℕ) → count ≤ 64 → (2 ^ 64 - 1) / 2 ^ (64 - count) ≡ 2 ^ count - 1
low_ones count few =
    let left : 64 - (64 - count) ≡ count = omega (arith, few) in
    ones_shr 64 (64 - count) (omega arith) ∙ ap (λ n. 2 ^ n - 1) left

-- a bitmap of some byte has a bit for each row
pub enough_bytes : (rows bytes : ℕ) → nat_eq rows rows && (nat_eq bytes 0 || nat_le ((rows + 7) / 8) bytes) ≡ true → nat_eq bytes 0 ≡ false → (rows + 7) / 8 ≤ bytes
enough_bytes rows bytes enough some = grind (arith, nat_tests, enough, some)
