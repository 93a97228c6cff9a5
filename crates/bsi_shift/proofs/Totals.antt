-- Totals of numbers that are stored less an offset.
use Rattle.std.proofs.Common.{◌≡◌, ℕ, ℤ, pos, neg_ℤ, ◌+ℤ◌, ◌*ℤ◌, ◌≤ℤ◌, ◌<ℤ◌, ◌+◌, ◌*◌, ◌-◌, ◌<◌, ◌≤◌, ◌^◌, suc, Bool, true, false, cond, List, [], ◌∷◌, Option, Some, None, length, map, ap, ap₂, sym, subst, ◌∙◌, refl, arith}
use Rattle.std.specs.Prelude.{All, Contains, IfSome, count_by, sum, nat_eq, nat_le, nat_lt, int_le, int_lt}
use Rattle.std.specs.Option.{option_map}
use Rattle.std.proofs.Math.IntN.{suc_ℤ-*ℤ, *ℤ_comm}
use Rattle.std.proofs.lemmas.Bool.Decides.{nat_tests}
use Rattle.std.proofs.lemmas.Int.{ints}
use Rattle.std.proofs.lemmas.List.{length-map, get_or-map}
use Rattle.std.proofs.lemmas.List.Elements.{All-nil, All-cons, All-head, All-tail, All-map, All-weaker, All-contains}
use Rattle.std.proofs.lemmas.List.Sums.{sum_by-cons}
use mir.Syntax.{w64}
use mir.Val.{SFits}
use Rattle.bsi_slices.proofs.CallerLemmas.{count_cons}
use Rattle.bsi_slices.proofs.Ranking.{count_split, member_from_count}
use Rattle.bsi_digits.specs.Offsets.{number_of}
use Rattle.bsi_digits.specs.Orders.{values_at}
use Rattle.bsi_digits.specs.Ranks.{IsSignedRanked}
use Rattle.bsi_digits.specs.Comparisons.{number_or_zero}
use Rattle.bsi_digits.specs.Totals.{IsLeastOf, IsGreatestOf, IsMedianOf, IsRanked}
use Rattle.bsi_digits.specs.WholeNumbers.{signed_sum, IsSignedLeastOf, IsSignedGreatestOf, IsSignedMedianOf}
use Rattle.bsi_columns.specs.AnyColumns.{any_entries}
use Rattle.bsi_columns.specs.declared.any.AnyColumn.{AnyColumn}
use Rattle.bsi_shift.specs.Shifted.{shifted_entries, OffsetColumn}
use Rattle.bsi_shift.proofs.Shifting.{values_at-shifted_entries}

-- ---- sums

-- the offset is added once for each number
pub sum_from : (offset : ℤ) (numbers : List ℕ) → signed_sum (map (number_of offset) numbers) ≡ pos (sum numbers) +ℤ offset *ℤ pos (length numbers)
unfolding signed_sum
sum_from offset [] = omega (arith, ints)
sum_from offset (n ∷ numbers) =
    let rest = sum_from offset numbers in
    let once : offset *ℤ pos (suc (length numbers)) ≡ offset *ℤ pos (length numbers) +ℤ offset =
    *ℤ_comm offset (pos (suc (length numbers))) ∙ suc_ℤ-*ℤ (pos (length numbers)) offset ∙ ap (λ z. z +ℤ offset) (*ℤ_comm (pos (length numbers)) offset) in
    omega (arith, ints, rest, once, sum_by-cons (λ x. x) n numbers)

-- numbers of 64 bits, of which there are at most 2^32
signed_sum_within : (numbers : List ℤ) → All (λ x. (neg_ℤ (pos (2 ^ 63)) ≤ℤ x) × (x <ℤ pos (2 ^ 63))) numbers
    → (neg_ℤ (pos (2 ^ 63 * length numbers)) ≤ℤ signed_sum numbers) × (signed_sum numbers ≤ℤ pos ((2 ^ 63 - 1) * length numbers))
unfolding signed_sum
signed_sum_within [] all = (omega (arith, ints), omega (arith, ints))
signed_sum_within (x ∷ numbers) all =
    let one = All-head (λ x. (neg_ℤ (pos (2 ^ 63)) ≤ℤ x) × (x <ℤ pos (2 ^ 63))) x numbers all in
    let rest = signed_sum_within numbers (All-tail (λ x. (neg_ℤ (pos (2 ^ 63)) ≤ℤ x) × (x <ℤ pos (2 ^ 63))) x numbers all) in
    (omega (arith, ints, one.0, one.1, rest.0, rest.1), omega (arith, ints, one.0, one.1, rest.0, rest.1))

-- ---- the order of numbers is that of the stored ones

module _ (offset : ℤ) where
  at_most_from : (n m : ℕ) → int_le (number_of offset n) (number_of offset m) ≡ nat_le n m
  at_most_from n m = grind (arith, ints, nat_tests)

  below_from : (n m : ℕ) → int_lt (number_of offset n) (number_of offset m) ≡ nat_lt n m
  below_from n m = grind (arith, ints, nat_tests)

  member_from : (numbers : List ℕ) (m : ℕ) → Contains numbers m → Contains (map (number_of offset) numbers) (number_of offset m)
  member_from numbers m selection = (
    selection.0,
    omega (arith, selection.1, length-map numbers (number_of offset)),
    get_or-map (number_of offset) numbers selection.0 m (number_of offset m) selection.1 ∙ ap (number_of offset) selection.2,
  )

  -- as many numbers pass a test as stored ones pass theirs
  count_from : (p : ℕ → Bool) (q : ℤ → Bool) → ((n : ℕ) → q (number_of offset n) ≡ p n) → (numbers : List ℕ) → count_by q (map (number_of offset) numbers) ≡ count_by p numbers
  count_from p q same [] = refl
  count_from p q same (n ∷ numbers) =
      count_cons q (number_of offset n) (map (number_of offset) numbers)
      ∙ ap₂ (λ b k. cond b 1 0 + k) (same n) (count_from p q same numbers)
      ∙ sym (count_cons p n numbers)

  pub least_from : (numbers : List ℕ) (answer : Option ℕ) → IsLeastOf numbers answer → IsSignedLeastOf (map (number_of offset) numbers) (option_map (number_of offset) answer)
  least_from numbers None none = ap (map (number_of offset)) none
  least_from numbers (Some m) is = record {
    member = member_from numbers m is.member;
    none_below = All-map (λ x. int_le (number_of offset m) x ≡ true) (number_of offset) numbers
        (All-weaker (λ n. nat_le m n ≡ true) (λ n. int_le (number_of offset m) (number_of offset n) ≡ true) (λ n le. at_most_from m n ∙ le) numbers is.none_below);
  }

  pub greatest_from : (numbers : List ℕ) (answer : Option ℕ) → IsGreatestOf numbers answer → IsSignedGreatestOf (map (number_of offset) numbers) (option_map (number_of offset) answer)
  greatest_from numbers None none = ap (map (number_of offset)) none
  greatest_from numbers (Some m) is = record {
    member = member_from numbers m is.member;
    none_above = All-map (λ x. int_le x (number_of offset m) ≡ true) (number_of offset) numbers
        (All-weaker (λ n. nat_le n m ≡ true) (λ n. int_le (number_of offset n) (number_of offset m) ≡ true) (λ n le. at_most_from n m ∙ le) numbers is.none_above);
  }

  pub median_from : (numbers : List ℕ) (answer : Option ℕ) → IsMedianOf numbers answer → IsSignedMedianOf (map (number_of offset) numbers) (option_map (number_of offset) answer)
  median_from numbers None none = ap (map (number_of offset)) none
  median_from numbers (Some m) is =
      let many = length-map numbers (number_of offset) in
      record {
        member = member_from numbers m is.member;
        half = omega (arith, is.half, many, count_from (λ n. nat_le n m) (λ x. int_le x (number_of offset m)) (λ n. at_most_from n m) numbers);
        fewer_below = omega (arith, is.fewer_below, many, count_from (λ n. nat_lt n m) (λ x. int_lt x (number_of offset m)) (λ n. below_from n m) numbers);
      }

  pub ranked_from : (rank : ℕ) (numbers : List ℕ) (m : ℕ) → IsRanked numbers rank m → IsSignedRanked rank (map (number_of offset) numbers) (number_of offset m)
  ranked_from rank numbers m is = (
    omega (arith, is.low, count_from (λ n. nat_lt n m) (λ x. int_lt x (number_of offset m)) (λ n. below_from n m) numbers),
    omega (arith, is.high, count_from (λ n. nat_le n m) (λ x. int_le x (number_of offset m)) (λ n. at_most_from n m) numbers),
  )

  pub past_from : (rank : ℕ) (numbers : List ℕ) → length numbers ≤ rank → length (map (number_of offset) numbers) ≤ rank
  past_from rank numbers past = omega (arith, past, length-map numbers (number_of offset))

-- ---- the answer is one of the numbers, so it is below the size

-- more numbers are at most that of a rank than below it, so it is one of them
ranked_member : (numbers : List ℕ) (rank m : ℕ) → IsRanked numbers rank m → Contains numbers m
ranked_member numbers rank m is =
    let split = count_split (λ n. nat_lt n m) (λ n. nat_eq n m) (λ n. nat_le n m) below_or_same numbers in
    member_from_count m numbers (omega (arith, is.low, is.high, split))
  where
    below_or_same : (n : ℕ) → cond (nat_le n m) 1 0 ≡ cond (nat_lt n m) 1 0 + cond (nat_eq n m) 1 0
    below_or_same n = grind (arith, nat_tests)

module _ (size : ℕ) where
  numbers_below : (selection : List Bool) (stored : List (Option ℕ)) → All (λ e. number_or_zero e < size) stored → All (λ n. n < size) (values_at selection stored)
  numbers_below [] stored below = All-nil (λ n. n < size)
  numbers_below (f ∷ selection) [] below = All-nil (λ n. n < size)
  numbers_below (false ∷ selection) (e ∷ stored) below = numbers_below selection stored (All-tail (λ e. number_or_zero e < size) e stored below)
  numbers_below (true ∷ selection) (None ∷ stored) below = numbers_below selection stored (All-tail (λ e. number_or_zero e < size) None stored below)
  numbers_below (true ∷ selection) (Some n ∷ stored) below =
      All-cons (λ n. n < size) n (values_at selection stored) (All-head (λ e. number_or_zero e < size) (Some n) stored below)
      (numbers_below selection stored (All-tail (λ e. number_or_zero e < size) (Some n) stored below))

  module _ (selection : List Bool) (stored : List (Option ℕ)) (below : All (λ e. number_or_zero e < size) stored) where
    member_below : (m : ℕ) → Contains (values_at selection stored) m → m < size
    member_below m there = All-contains (λ n. n < size) (values_at selection stored) m (numbers_below selection stored below) there

    pub least_below : (answer : Option ℕ) → IsLeastOf (values_at selection stored) answer → IfSome answer (λ m. m < size)
    least_below None none = tt
    least_below (Some m) is = member_below m is.member

    pub greatest_below : (answer : Option ℕ) → IsGreatestOf (values_at selection stored) answer → IfSome answer (λ m. m < size)
    greatest_below None none = tt
    greatest_below (Some m) is = member_below m is.member

    pub median_below : (answer : Option ℕ) → IsMedianOf (values_at selection stored) answer → IfSome answer (λ m. m < size)
    median_below None none = tt
    median_below (Some m) is = member_below m is.member

    pub ranked_below : (rank m : ℕ) → IsRanked (values_at selection stored) rank m → m < size
    ranked_below rank m is = member_below m (ranked_member (values_at selection stored) rank m is)

-- ---- the answer of a column, from that of the stored one

pub answer_from : (Is : List ℤ → Option ℤ → Type 0) (offset : ℤ) (stored : AnyColumn) (view : OffsetColumn) (selection : List Bool) (entry : Option ℕ) (answer : Option ℤ)
    → record { stored = stored; offset = offset } ≡ view → answer ≡ option_map (number_of offset) entry
    → Is (map (number_of offset) (values_at selection (any_entries stored))) (option_map (number_of offset) entry) → Is (values_at selection (shifted_entries view)) answer
answer_from Is offset stored view selection entry answer view_is answer_is moved =
    subst (λ v. Is (values_at selection (shifted_entries v)) answer) view_is
    (subst (λ values. Is values answer) (sym (values_at-shifted_entries _ selection)) (subst (Is _) (sym answer_is) moved))

-- ---- a sum of at most 2^32 numbers of 64 bits

pub sum_within : (offset : ℤ) (size : ℕ) (selection : List Bool) (stored : List (Option ℕ)) → SFits w64 offset → (offset +ℤ pos size) ≤ℤ pos (2 ^ 63)
    → All (λ e. number_or_zero e < size) stored → length (values_at selection stored) ≤ 2 ^ 32
    → (neg_ℤ (pos (2 ^ 95)) ≤ℤ signed_sum (map (number_of offset) (values_at selection stored))) × (signed_sum (map (number_of offset) (values_at selection stored)) <ℤ pos (2 ^ 95))
sum_within offset size selection stored fits within below few =
    let numbers = values_at selection stored in
    let each = All-map (λ x. (neg_ℤ (pos (2 ^ 63)) ≤ℤ x) × (x <ℤ pos (2 ^ 63))) (number_of offset) numbers
    (All-weaker (λ n. n < size) (λ n. (neg_ℤ (pos (2 ^ 63)) ≤ℤ number_of offset n) × (number_of offset n <ℤ pos (2 ^ 63)))
    (λ n small. (omega (arith, ints, fits), omega (arith, ints, small, within))) numbers (numbers_below size selection stored below)) in
    let sum = signed_sum_within (map (number_of offset) numbers) each in
    let many = length-map numbers (number_of offset) in
    (omega (arith, ints, sum.0, many, few), omega (arith, ints, sum.1, many, few))
