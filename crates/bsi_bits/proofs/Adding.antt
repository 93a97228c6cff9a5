-- Words added bit by bit: three ones in a place are a sum and a carry there.
use Rattle.std.proofs.Common.{◌≡◌, ℕ, ◌+◌, ◌*◌, ◌/◌, ◌%◌, ◌<◌, ◌≤◌, List, [], ◌∷◌, length, take, drop, suc, zero, refl, ap, ap₂, Fits, ◌∙◌, arith}
use Rattle.std.specs.Prelude.{sum_by, count_ones, bit_and, bit_or, bit_xor, min, max}
use Rattle.std.specs.Int.{w64}
use Rattle.std.specs.Int.Count.{ones_step}
use Rattle.std.specs.Simd.Lanes.{zip2, chunk, Each1}
use Rattle.std.proofs.lemmas.Nat.{xor_shr, and_shr, or_shr, ones-le}
use Rattle.std.proofs.lemmas.Nat.Bits.{bit_at_lowest, bit_at_and, bit_at_or, bit_at_xor}
use Rattle.std.proofs.lemmas.List.Sums.{sum_by-append, sum_by-cons}
use Rattle.std.proofs.Math.Seq.{take-add}
use Rattle.std.proofs.lemmas.List.{drop-drop}

abbrev sum_of : ℕ → ℕ → ℕ → ℕ
sum_of a b c = bit_xor (bit_xor a b) c

abbrev carry_of : ℕ → ℕ → ℕ → ℕ
carry_of a b c = bit_or (bit_and a b) (bit_and (bit_xor a b) c)

-- three digits
digits_added : (x y z : ℕ) → x < 2 → y < 2 → z < 2 → ((x + y) % 2 + z) % 2 + 2 * max (min x y) (min ((x + y) % 2) z) ≡ x + y + z
digits_added x y z first second third = grind arith

module _ (a b c : ℕ) where
  xor_half : bit_xor a b / 2 ≡ bit_xor (a / 2) (b / 2)
  xor_half = xor_shr a b 1

  sum_half : sum_of a b c / 2 ≡ sum_of (a / 2) (b / 2) (c / 2)
  sum_half = xor_shr (bit_xor a b) c 1 ∙ ap (λ x. bit_xor x (c / 2)) xor_half

  carry_half : carry_of a b c / 2 ≡ carry_of (a / 2) (b / 2) (c / 2)
  carry_half =
      or_shr (bit_and a b) (bit_and (bit_xor a b) c) 1
      ∙ ap₂ bit_or (and_shr a b 1) (and_shr (bit_xor a b) c 1 ∙ ap (λ x. bit_and x (c / 2)) xor_half)

  xor_lowest : bit_xor a b % 2 ≡ (a % 2 + b % 2) % 2
  xor_lowest = omega (arith, bit_at_lowest (bit_xor a b), bit_at_xor a b 0, bit_at_lowest a, bit_at_lowest b)

  and_lowest : bit_and a b % 2 ≡ min (a % 2) (b % 2)
  and_lowest = omega (arith, bit_at_lowest (bit_and a b), bit_at_and a b 0, bit_at_lowest a, bit_at_lowest b)

  or_lowest : bit_or a b % 2 ≡ max (a % 2) (b % 2)
  or_lowest = omega (arith, bit_at_lowest (bit_or a b), bit_at_or a b 0, bit_at_lowest a, bit_at_lowest b)

-- the lowest digits of the sum and of the carry
lowest_added : (a b c : ℕ) → sum_of a b c % 2 + 2 * (carry_of a b c % 2) ≡ a % 2 + b % 2 + c % 2
lowest_added a b c =
    omega (
      arith,
      digits_added (a % 2) (b % 2) (c % 2) (omega arith) (omega arith) (omega arith),
      xor_lowest a b c,
      xor_lowest (bit_xor a b) c c,
      and_lowest a b c,
      and_lowest (bit_xor a b) c c,
      or_lowest (bit_and a b) (bit_and (bit_xor a b) c) c,
    )

words_added : (d a b c : ℕ) → a ≤ d → b ≤ d → c ≤ d → count_ones (sum_of a b c) + 2 * count_ones (carry_of a b c) ≡ count_ones a + count_ones b + count_ones c
words_added zero zero zero zero first second third = omega (arith, ones-le 0 0 (omega arith))
words_added zero (suc a) b c first second third = absurd (omega arith)
words_added zero zero (suc b) c first second third = absurd (omega arith)
words_added zero zero zero (suc c) first second third = absurd (omega arith)
words_added (suc d) a b c first second third =
    let halves = words_added d (a / 2) (b / 2) (c / 2) (omega arith) (omega arith) (omega arith) in
    omega (
      arith,
      halves,
      lowest_added a b c,
      ones_step a,
      ones_step b,
      ones_step c,
      ones_step (sum_of a b c),
      ap count_ones (sum_half a b c),
      ones_step (carry_of a b c),
      ap count_ones (carry_half a b c),
    )

-- the ones of the sums, and twice those of the carries, are the ones of the three lists
pub lists_added : (xs ys zs : List ℕ) → length xs ≡ length ys → length xs ≡ length zs
    → sum_by count_ones (zip2 bit_xor (zip2 bit_xor xs ys) zs) + 2 * sum_by count_ones (zip2 bit_or (zip2 bit_and xs ys) (zip2 bit_and (zip2 bit_xor xs ys) zs))
    ≡ sum_by count_ones xs + sum_by count_ones ys + sum_by count_ones zs
lists_added [] [] [] same same_too = refl
lists_added [] (y ∷ ys) zs same same_too = absurd (omega arith)
lists_added [] [] (z ∷ zs) same same_too = absurd (omega arith)
lists_added (x ∷ xs) [] zs same same_too = absurd (omega arith)
lists_added (x ∷ xs) (y ∷ ys) [] same same_too = absurd (omega arith)
lists_added (x ∷ xs) (y ∷ ys) (z ∷ zs) same same_too =
    let sums = zip2 bit_xor (zip2 bit_xor xs ys) zs in
    let carries = zip2 bit_or (zip2 bit_and xs ys) (zip2 bit_and (zip2 bit_xor xs ys) zs) in
    let more_sums = sum_by-cons count_ones (sum_of x y z) sums in
    let more_carries = sum_by-cons count_ones (carry_of x y z) carries in
    let both : sum_by count_ones (sum_of x y z ∷ sums) + 2 * sum_by count_ones (carry_of x y z ∷ carries)
    ≡ sum_by count_ones (x ∷ xs) + sum_by count_ones (y ∷ ys) + sum_by count_ones (z ∷ zs) =
    omega (
      arith,
      lists_added xs ys zs (omega arith) (omega arith),
      words_added (x + y + z) x y z (omega arith) (omega arith) (omega arith),
      more_sums,
      more_carries,
      sum_by-cons count_ones x xs,
      sum_by-cons count_ones y ys,
      sum_by-cons count_ones z zs,
    ) in
    both

-- words of 64 bits have at most 64 ones each
pub few_ones : (xs : List ℕ) → Each1 (Fits w64) xs → sum_by count_ones xs ≤ 64 * length xs
few_ones [] fits = omega arith
few_ones (x ∷ xs) fits = omega (arith, sum_by-cons count_ones x xs, ones-le 64 x fits.0.fits, few_ones xs fits.1)

-- a block in two parts
pub chunk_added : (g : ℕ → ℕ) (at n m : ℕ) (xs : List ℕ) → sum_by g (chunk at (n + m) xs) ≡ sum_by g (chunk at n xs) + sum_by g (chunk (at + n) m xs)
chunk_added g at n m xs =
    ap (sum_by g) (take-add n m (drop at xs)) ∙ sum_by-append g (take n (drop at xs)) (take m (drop n (drop at xs)))
    ∙ ap (λ l. sum_by g (take n (drop at xs)) + sum_by g (take m l)) (drop-drop n at xs)
