-- The tallies of the rows so far, and with one row more.
use Rattle.std.proofs.Common.{Bor, ◌≡◌, ◌≢◌, ℕ, zero, suc, ◌+◌, ◌*◌, ◌^◌, ◌<◌, ◌≤◌, Bool, true, false, true≢false, ℤ, pos, List, [], ◌∷◌, ◌++◌, Option, Some, None, All, cond, length, get_or, map, set, take, inl, inr, refl, ap, ap₂, sym, subst, ◌∙◌, arith, length-append}
use Rattle.std.specs.Prelude.{IsTrue, int_le, int_lt, IfSome, ◌&&◌, ◌==◌, ◌/◌, bit_and, ◌+ℤ◌, ◌≤ℤ◌, is_none, nat_lt, unwrap_or, if◌then◌else◌}
use Rattle.std.specs.Option.{option_map}
use Rattle.std.specs.Int.{bit_at}
use Rattle.std.specs.List.{items_where_true}
use Rattle.std.proofs.Math.IntN.{+ℤ_assoc}
use Rattle.std.proofs.lemmas.Bool.{and_right, cases_Bool, cases_eq, lt-ltb}
use Rattle.std.proofs.lemmas.Simd.{length-zip2}
use Rattle.std.proofs.lemmas.Bool.Decides.{nat_tests}
use Rattle.std.proofs.lemmas.Int.{ints}
use Rattle.std.proofs.lemmas.List.{append-nil, length-map, length-set, take_all, get_or-set_same, get_or-set_other}
use Rattle.std.proofs.lemmas.List.Elements.{All-push, All-weaker, Contains-append_left, Contains-push, All-head, All-tail}
use Rattle.std.proofs.lemmas.Nat.Bits.{bit_at-zero, shr_and_one}
use Rattle.bsi_bits.specs.Packed.{bit_of}
use Rattle.bsi_digits.specs.Offsets.{number_of}
use Rattle.bsi_digits.specs.Orders.{IsGreatestBy, IsLeastBy}
use Rattle.bsi_digits.specs.WholeNumbers.{signed_order, signed_sum, IsSignedGreatestOf, IsSignedLeastOf}
use Rattle.bsi_shift.specs.Shifted.{shifted_entries, shifted_size, OffsetColumn}
use Rattle.bsi_shift.proofs.ColumnComparisons.{word_bit}
use Rattle.bsi_aggregates.specs.Entries.{is_entry, rows_having}
use Rattle.bsi_aggregates.specs.Tallies.{entries_or_nulls, numbers_of, tallied, tally_entry, AreEntryTallies, IsTally, IsTallyIndex}
use Rattle.bsi_aggregates.specs.declared.tally.Tally.{Tally}
use Rattle.bsi_aggregates.proofs.Order.{entry_is, is_itself}

-- ---- a tally

numbers_more : (entries : List (Option ℤ)) (e : Option ℤ) → numbers_of (entries ++ e ∷ []) ≡ numbers_of entries ++ numbers_of (e ∷ [])
numbers_more [] e = refl
numbers_more (None ∷ entries) e = numbers_more entries e
numbers_more (Some n ∷ entries) e = ap (λ ns. n ∷ ns) (numbers_more entries e)

sum_more : (numbers : List ℤ) (n : ℤ) → signed_sum (numbers ++ n ∷ []) ≡ signed_sum numbers +ℤ n
unfolding signed_sum
sum_more [] n = grind (arith, ints)
sum_more (x ∷ numbers) n = ap (λ s. x +ℤ s) (sum_more numbers n) ∙ sym (+ℤ_assoc x (signed_sum numbers) n)

pub sum_none : signed_sum [] ≡ pos 0
unfolding signed_sum
sum_none = refl

-- one more number of 64 bits
within_more : (rows : ℕ) (sum n : ℤ) → sum ≤ℤ pos (2 ^ 63 * rows) → n ≤ℤ pos (2 ^ 63) → (sum +ℤ n) ≤ℤ pos (2 ^ 63 * (rows + 1))
within_more rows sum n most small = grind (arith, ints)

within_fewer : (rows : ℕ) (sum n : ℤ) → pos 0 ≤ℤ (sum +ℤ pos (2 ^ 63 * rows)) → pos 0 ≤ℤ (n +ℤ pos (2 ^ 63)) → pos 0 ≤ℤ ((sum +ℤ n) +ℤ pos (2 ^ 63 * (rows + 1)))
within_fewer rows sum n most small = grind (arith, ints)

-- a row of no number
still_most : (rows : ℕ) (sum : ℤ) → sum ≤ℤ pos (2 ^ 63 * rows) → sum ≤ℤ pos (2 ^ 63 * (rows + 1))
still_most rows sum most = grind (arith, ints)

still_fewest : (rows : ℕ) (sum : ℤ) → pos 0 ≤ℤ (sum +ℤ pos (2 ^ 63 * rows)) → pos 0 ≤ℤ (sum +ℤ pos (2 ^ 63 * (rows + 1)))
still_fewest rows sum most = grind (arith, ints)

module _ (entries : List (Option ℤ)) (tally : Tally) (is : IsTally entries tally) where
  rows_more : (e : Option ℤ) → tally.rows + 1 ≡ length (entries ++ e ∷ [])
  rows_more e = omega (arith, is.rows, length-append entries (e ∷ []))

  no_number_more : numbers_of entries ≡ numbers_of (entries ++ None ∷ [])
  no_number_more = sym (numbers_more entries None ∙ append-nil (numbers_of entries))

  pub with_null : IsTally (entries ++ None ∷ []) (record { rows = tally.rows + 1; sum = tally.sum; least = tally.least; greatest = tally.greatest })
  with_null = record {
    rows = rows_more None;
    within = record { most = still_most tally.rows tally.sum is.within.most; fewest = still_fewest tally.rows tally.sum is.within.fewest };
    sum = is.sum ∙ ap signed_sum no_number_more;
    least = subst (λ ns. IsSignedLeastOf ns tally.least) no_number_more is.least;
    greatest = subst (λ ns. IsSignedGreatestOf ns tally.greatest) no_number_more is.greatest;
  }

  pub with_number : (n least greatest : ℤ) → n ≤ℤ pos (2 ^ 63) → pos 0 ≤ℤ (n +ℤ pos (2 ^ 63))
      → IsLeastBy signed_order (numbers_of entries ++ n ∷ []) least → IsGreatestBy signed_order (numbers_of entries ++ n ∷ []) greatest
      → IsTally (entries ++ Some n ∷ []) (record { rows = tally.rows + 1; sum = tally.sum +ℤ n; least = Some least; greatest = Some greatest })
  with_number n least greatest high low is_least is_greatest =
      let more = sym (numbers_more entries (Some n)) in record {
        rows = rows_more (Some n);
        within = record { most = within_more tally.rows tally.sum n is.within.most high; fewest = within_fewer tally.rows tally.sum n is.within.fewest low };
        sum = ap (λ s. s +ℤ n) is.sum ∙ sym (sum_more (numbers_of entries) n) ∙ ap signed_sum more;
        least = subst (λ ns. IsSignedLeastOf ns (Some least)) more is_least;
        greatest = subst (λ ns. IsSignedGreatestOf ns (Some greatest)) more is_greatest;
      }

-- ---- the least and the greatest number, and one number more

lower : (x y : ℤ) → int_lt x y ≡ true → int_le x y ≡ true
lower x y below = grind (arith, ints, nat_tests)

not_lower : (x y : ℤ) → int_lt x y ≡ false → int_le y x ≡ true
not_lower x y above = grind (arith, ints, nat_tests)

at_itself : (x : ℤ) → int_le x x ≡ true
at_itself x = grind (arith, ints, nat_tests)

up : (x y z : ℤ) → int_le x y ≡ true → int_le y z ≡ true → int_le x z ≡ true
up x y z first second = grind (arith, ints, nat_tests)

module _ (numbers : List ℤ) (m n : ℤ) where
  pub still_least : IsLeastBy signed_order numbers m → int_lt m n ≡ true → IsLeastBy signed_order (numbers ++ n ∷ []) m
  still_least is below = record {
    member = Contains-append_left numbers (n ∷ []) m is.member;
    none_below = All-push (λ x. IsTrue (int_le m x)) numbers n is.none_below (lower m n below);
  }

  pub new_least : IsLeastBy signed_order numbers m → int_lt m n ≡ false → IsLeastBy signed_order (numbers ++ n ∷ []) n
  new_least is above = record {
    member = Contains-push numbers n;
    none_below = All-push (λ x. IsTrue (int_le n x)) numbers n
        (All-weaker (λ x. IsTrue (int_le m x)) (λ x. IsTrue (int_le n x)) (λ x at_most. up n m x (not_lower m n above) at_most) numbers is.none_below) (at_itself n);
  }

  pub still_greatest : IsGreatestBy signed_order numbers m → int_lt n m ≡ true → IsGreatestBy signed_order (numbers ++ n ∷ []) m
  still_greatest is above = record {
    member = Contains-append_left numbers (n ∷ []) m is.member;
    none_above = All-push (λ x. IsTrue (int_le x m)) numbers n is.none_above (lower n m above);
  }

  pub new_greatest : IsGreatestBy signed_order numbers m → int_lt n m ≡ false → IsGreatestBy signed_order (numbers ++ n ∷ []) n
  new_greatest is below = record {
    member = Contains-push numbers n;
    none_above = All-push (λ x. IsTrue (int_le x n)) numbers n
        (All-weaker (λ x. IsTrue (int_le x m)) (λ x. IsTrue (int_le x n)) (λ x at_most. up x m n at_most (not_lower n m below)) numbers is.none_above) (at_itself n);
  }

-- ---- the selected rows that have an entry

-- one row more
having_at : (xs : List (Option ℤ)) (selection : List Bool) (e : Option ℤ) (n : ℕ) → length xs ≡ length selection
    → get_or (rows_having xs selection e) n false ≡ (is_entry e (get_or xs n None) && get_or selection n false)
having_at [] [] e n same = sym (and_right (is_entry e None) false refl)
having_at [] (f ∷ selection) e n same = absurd (omega arith)
having_at (x ∷ xs) [] e n same = absurd (omega arith)
having_at (x ∷ xs) (f ∷ selection) e zero same = refl
having_at (x ∷ xs) (f ∷ selection) e (suc n) same = having_at xs selection e n (omega arith)

next_entry : (bits : List Bool) (xs : List (Option ℤ)) (n : ℕ) → length xs ≡ length bits
    → items_where_true (take (n + 1) bits) (take (n + 1) xs) ≡ items_where_true (take n bits) (take n xs) ++ cond (get_or bits n false) (get_or xs n None ∷ []) []
next_entry bits xs n same = let next : n + 1 ≡ suc n = omega arith in ap (λ m. items_where_true (take m bits) (take m xs)) next ∙ by bits xs n same
  where
    by : (bits : List Bool) (xs : List (Option ℤ)) (n : ℕ) → length xs ≡ length bits
        → items_where_true (take (suc n) bits) (take (suc n) xs) ≡ items_where_true (take n bits) (take n xs) ++ cond (get_or bits n false) (get_or xs n None ∷ []) []
    by [] [] zero same = refl
    by [] [] (suc n) same = refl
    by [] (x ∷ xs) n same = absurd (omega arith)
    by (b ∷ bits) [] n same = absurd (omega arith)
    by (true ∷ bits) (x ∷ xs) zero same = refl
    by (false ∷ bits) (x ∷ xs) zero same = refl
    by (true ∷ bits) (x ∷ xs) (suc n) same = ap (λ ys. x ∷ ys) (by bits xs n (omega arith))
    by (false ∷ bits) (x ∷ xs) (suc n) same = by bits xs n (omega arith)

-- as few entries as rows
few_entries : (bits : List Bool) (xs : List (Option ℤ)) (n : ℕ) → length (items_where_true (take n bits) (take n xs)) ≤ n
few_entries bits xs zero = omega arith
few_entries [] xs (suc n) = omega arith
few_entries (b ∷ bits) [] (suc n) = omega arith
few_entries (true ∷ bits) (x ∷ xs) (suc n) = omega (arith, few_entries bits xs n)
few_entries (false ∷ bits) (x ∷ xs) (suc n) = omega (arith, few_entries bits xs n)

-- an entry in the column
pub in_range : (P : Option ℤ → Type 0) (xs : List (Option ℤ)) (n : ℕ) → All P xs → P None → P (get_or xs n None)
in_range P [] n all none = none
in_range P (x ∷ xs) zero all none = All-head P x xs all
in_range P (x ∷ xs) (suc n) all none = in_range P xs n (All-tail P x xs all) none

-- ---- the places of tallies

module _ (offset : ℤ) (size : ℕ) where
  pub entry_below : (k : ℕ) → k < size → tally_entry offset size k ≡ Some (number_of offset k)
  entry_below k below = ap (λ b. if b then Some (number_of offset k) else None) (lt-ltb k size below)

  pub entry_last : tally_entry offset size size ≡ None
  entry_last = ap (λ b. if b then Some (number_of offset size) else None) (not_below size)
    where
      not_below : (n : ℕ) → nat_lt n n ≡ false
      not_below n = grind (arith, nat_tests)

  -- an entry's tally stands at its place
  pub entry_placed : (e : Option ℤ) (k : ℕ) → IsTallyIndex offset size e k → tally_entry offset size k ≡ e
  entry_placed (Some n) k is = entry_below k is.0 ∙ ap Some (sym is.1)
  entry_placed None k is = ap (tally_entry offset size) is ∙ entry_last

  pub place_within : (e : Option ℤ) (k : ℕ) → IsTallyIndex offset size e k → k ≤ size
  place_within (Some n) k is = omega (arith, is.0)
  place_within None k is = omega (arith, is)

  -- no two entries share one
  pub place_once : (j k : ℕ) → j ≤ size → k ≤ size → tally_entry offset size j ≡ tally_entry offset size k → j ≡ k
  place_once j k j_within k_within same = by (nat_lt j size) refl (nat_lt k size) refl same
    where
      number_once : (x : ℤ) → number_of x j ≡ number_of x k → j ≡ k
      number_once x is = grind (arith, ints)

      last : (size : ℕ) → j ≤ size → k ≤ size → nat_lt j size ≡ false → nat_lt k size ≡ false → j ≡ k
      last size j_in k_in first second = grind (arith, nat_tests)

      by : (a : Bool) → nat_lt j size ≡ a → (b : Bool) → nat_lt k size ≡ b
          → (if a then Some (number_of offset j) else None) ≡ (if b then Some (number_of offset k) else None) → j ≡ k
      by true j_is true k_is same = number_once offset (ap (λ e. unwrap_or e (pos 0)) same)
      by true j_is false k_is same = absurd (true≢false (sym (ap is_none same)))
      by false j_is true k_is same = absurd (true≢false (ap is_none same))
      by false j_is false k_is same = last size j_within k_within j_is k_is

-- ---- one row more

abbrev key_at : OffsetColumn → ℕ → Option ℤ
key_at keys k = tally_entry keys.offset (shifted_size keys) k

module _ (keys : OffsetColumn) (entries : List (Option ℤ)) (selection : List Bool) (same : length (shifted_entries keys) ≡ length selection) (alike : length entries ≡ length selection) where
  having_long : (e : Option ℤ) → length (rows_having (shifted_entries keys) selection e) ≡ length selection
  having_long e = let long = length-map (shifted_entries keys) (is_entry e) in length-zip2 ◌&&◌ (map (is_entry e) (shifted_entries keys)) selection (long ∙ same) ∙ long ∙ same

  more_tallied : (n k : ℕ) → tallied keys entries selection (n + 1) k
      ≡ tallied keys entries selection n k ++ cond (is_entry (key_at keys k) (get_or (shifted_entries keys) n None) && get_or selection n false) (get_or entries n None ∷ []) []
  more_tallied n k =
      next_entry (rows_having (shifted_entries keys) selection (key_at keys k)) entries n (alike ∙ sym (having_long (key_at keys k)))
      ∙ ap (λ b. tallied keys entries selection n k ++ cond b (get_or entries n None ∷ []) []) (having_at (shifted_entries keys) selection (key_at keys k) n same)

  module _ (n : ℕ) (tallies : List Tally) (are : AreEntryTallies keys entries selection n tallies) where
    unchanged : (k : ℕ) → (is_entry (key_at keys k) (get_or (shifted_entries keys) n None) && get_or selection n false) ≡ false
        → tallied keys entries selection n k ≡ tallied keys entries selection (n + 1) k
    unchanged k none = sym (more_tallied n k ∙ ap (λ b. tallied keys entries selection n k ++ cond b (get_or entries n None ∷ []) []) none ∙ append-nil (tallied keys entries selection n k))

    -- a row that is not found
    pub no_row : get_or selection n false ≡ false → AreEntryTallies keys entries selection (n + 1) tallies
    no_row none = record {
      long = are.long;
      each = λ k d within. subst (λ es. IsTally es (get_or tallies k d)) (unchanged k (and_right _ _ none)) (are.each k d within);
    }

    -- a row that is found
    pub one_row : (s : ℕ) (tally d : Tally) → get_or selection n false ≡ true → s ≤ shifted_size keys → key_at keys s ≡ get_or (shifted_entries keys) n None
        → ((es : List (Option ℤ)) → IsTally es (get_or tallies s d) → IsTally (es ++ get_or entries n None ∷ []) tally)
        → AreEntryTallies keys entries selection (n + 1) (set tallies s tally)
    one_row s tally d there place is more = record {
      long = length-set tallies s tally ∙ are.long;
      each = λ k d within. elim (cases_eq k s) [
        | inl here ↦ subst (λ k. IsTally (tallied keys entries selection (n + 1) k) (get_or (set tallies s tally) k d)) (sym here) (at_place d (omega (arith, within, here, length-set tallies s tally)))
        | inr other ↦ at_other k d (omega (arith, within, length-set tallies s tally)) other
      ];
    }
      where
        row : Option ℤ
        row = get_or (shifted_entries keys) n None

        at_place : (d : Tally) → s < length tallies → IsTally (tallied keys entries selection (n + 1) s) (get_or (set tallies s tally) s d)
        at_place d within =
            let has = ap₂ ◌&&◌ (ap (is_entry (key_at keys s)) (sym is) ∙ is_itself (key_at keys s)) there in
            let one = more_tallied n s ∙ ap (λ b. tallied keys entries selection n s ++ cond b (get_or entries n None ∷ []) []) has in
            subst (IsTally (tallied keys entries selection (n + 1) s)) (sym (get_or-set_same tallies s tally d within))
            (subst (λ es. IsTally es tally) (sym one) (more (tallied keys entries selection n s) (are.each s _ within)))

        at_other : (k : ℕ) (d : Tally) → k < length tallies → k ≢ s → IsTally (tallied keys entries selection (n + 1) k) (get_or (set tallies s tally) k d)
        at_other k d within other =
            subst (IsTally (tallied keys entries selection (n + 1) k)) (sym (get_or-set_other tallies s k tally d other))
            (subst (λ es. IsTally es (get_or tallies k d)) (unchanged k (ap (λ b. b && get_or selection n false) apart)) (are.each k d within))
          where
            apart : is_entry (key_at keys k) row ≡ false
            apart = elim (cases_Bool (is_entry (key_at keys k) row)) [
              | inl has ↦ absurd (other (place_once keys.offset (shifted_size keys) k s (omega (arith, within, are.long)) place (sym (entry_is (key_at keys k) row has) ∙ sym is)))
              | inr hasnt ↦ hasnt
            ]

  -- a word of rows that are not selected
  pub no_rows : (m n : ℕ) (tallies : List Tally) → AreEntryTallies keys entries selection n tallies → ((r : ℕ) → r < m → get_or selection (n + r) false ≡ false) → AreEntryTallies keys entries selection (n + m) tallies
  no_rows zero n tallies are none = let here : n ≡ n + 0 = omega arith in subst (λ n. AreEntryTallies keys entries selection n tallies) here are
  no_rows (suc m) n tallies are none =
      let next : (n + m) + 1 ≡ n + suc m = omega arith in
      subst (λ n. AreEntryTallies keys entries selection n tallies) next
      (no_row (n + m) tallies (no_rows m n tallies are (λ r below. none r (omega arith))) (none m (omega arith)))

  -- the rows of a tally are not more than those so far
  pub few_rows : (n : ℕ) (tallies : List Tally) (are : AreEntryTallies keys entries selection n tallies) (k : ℕ) (d : Tally) → k < length tallies → (get_or tallies k d).rows ≤ n
  few_rows n tallies are k d within =
      omega (arith, (are.each k d within).rows, few_entries (rows_having (shifted_entries keys) selection (key_at keys k)) entries n)

  -- all rows are tallied
  pub whole : (n k : ℕ) → length selection ≤ n → tallied keys entries selection n k ≡ items_where_true (rows_having (shifted_entries keys) selection (key_at keys k)) entries
  whole n k all =
      ap₂ items_where_true (take_all n (rows_having (shifted_entries keys) selection (key_at keys k)) (omega (arith, all, having_long (key_at keys k))))
      (take_all n entries (omega (arith, all, alike)))

  pub all_rows : (n : ℕ) (tallies : List Tally) → AreEntryTallies keys entries selection n tallies → length selection ≤ n → AreEntryTallies keys entries selection (length selection) tallies
  all_rows n tallies are all = record {
    long = are.long;
    each = λ k d within. subst (λ es. IsTally es (get_or tallies k d)) (whole n k all ∙ sym (whole (length selection) k (omega arith))) (are.each k d within);
  }

-- ---- the entries that are read

-- nulls are read where there is no column
pub null_at : (selection : List Bool) (n : ℕ) → get_or {A = Option ℤ} (map (λ _. None) selection) n None ≡ None
null_at [] n = refl
null_at (f ∷ selection) zero = refl
null_at (f ∷ selection) (suc n) = null_at selection n

-- as many entries are read as there are rows
pub read_long : (selection : List Bool) (entries : Option (Bor OffsetColumn)) → IfSome entries (λ c. length (shifted_entries c.now) ≡ length selection)
    → length (entries_or_nulls selection (option_map (λ c. shifted_entries c.now) entries)) ≡ length selection
read_long selection (Some c) long = long
read_long selection None long = length-map selection _

-- ---- the rows of a word

-- a row's bit in the word that was read
pub found_bit : (words : List ℕ) (selection : List Bool) → ((i : ℕ) → bit_of words i ≡ get_or selection i false) → (at r : ℕ) → r < 64
    → (bit_and (get_or words at 0 / 2 ^ r) 1 == 1) ≡ get_or selection (64 * at + r) false
found_bit words selection bits at r near = ap (λ b. b == 1) (shr_and_one (get_or words at 0) r) ∙ word_bit words at r near ∙ bits (64 * at + r)

pub not_one : {n : ℕ} → (n ≡ 1 → ⊥) → (n == 1) ≡ false
not_one other = grind (arith, nat_tests)

-- a word of no row
pub none_found : (words : List ℕ) (selection : List Bool) → ((i : ℕ) → bit_of words i ≡ get_or selection i false) → (at : ℕ) → get_or words at 0 ≡ 0
    → (r : ℕ) → r < 64 → get_or selection (64 * at + r) false ≡ false
none_found words selection bits at none r near =
    sym (bits (64 * at + r)) ∙ sym (word_bit words at r near) ∙ ap (λ w. bit_at w r == 1) none ∙ ap (λ b. b == 1) (bit_at-zero r)
