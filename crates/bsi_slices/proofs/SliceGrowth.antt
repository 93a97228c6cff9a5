-- Rows that are added to a column of slices.
use Rattle.std.proofs.Common.{◌≡◌, ℕ, zero, suc, ◌+◌, ◌-◌, ◌*◌, ◌%◌, ◌^◌, ◌<◌, ◌≤◌, Bool, false, List, ◌++◌, length, get_or, take, map, Option, Some, None, is_some, inl, inr, sym, ◌∙◌, ap, refl, arith, length-append}
use Rattle.std.specs.Prelude.{◌==◌, if◌then◌else◌}
use Rattle.std.specs.Int.{bit_at}
use Rattle.std.proofs.Math.Nat.{mod-eq_of_lt}
use Rattle.std.proofs.lemmas.Bool.{cases_lt}
use Rattle.std.proofs.lemmas.List.{get_or_append_left, get_or-append_right, take_all, length-map, get_or-map}
use Rattle.std.proofs.lemmas.List.Elements.{All-get_or}
use Rattle.std.proofs.lemmas.List.FromFn.{fill_by_all}
use Rattle.bsi_bits.specs.BitList.{BitList}
use Rattle.bsi_digits.specs.Comparisons.{number_or_zero}
use Rattle.bsi_bits.specs.BitLists.{bits_at}
use Rattle.bsi_slices.specs.Slices.{bit_value, number, sliced_entry, entries_in, IsSliced}
use Rattle.bsi_slices.proofs.SliceNumbers.{number_more, number_none, places_more}
use Rattle.bsi_slices.proofs.SliceEntries.{number_same, length-entries_in, get_or-entries_in, entries_below, not_null_of, slice_of}

-- the number of a row whose bit in each slice is the binary place of x
module _ (slices : List BitList) (x r : ℕ) (placed : (k : ℕ) → k < length slices → get_or (bits_at slices k) r false ≡ (bit_at x k == 1)) where
  number_low : (i : ℕ) → i ≤ length slices → number (take i slices) r ≡ x % 2 ^ i
  number_low zero within = number_none r ∙ omega arith
  number_low (suc i) within =
      let e : suc i ≡ i + 1 = omega arith in
      ap (λ j. number (take j slices) r) e
      ∙ number_more slices r i (omega arith)
      ∙ (λ j. number_low i (omega arith) j + bit_value (placed i (omega arith) j) * 2 ^ i)
      ∙ sym (places_more x i)
      ∙ ap (λ j. x % 2 ^ j) (sym e)

  pub placed_number : x < 2 ^ length slices → number slices r ≡ x
  placed_number small =
      ap (λ s. number s r) (sym (take_all (length slices) slices (omega arith))) ∙ number_low (length slices) (omega arith) ∙ mod-eq_of_lt small

module _ (not_null now : List Bool) (old new : List BitList) (block : List (Option ℕ)) (sliced : IsSliced not_null old) (fit : (i : ℕ) → i < length block → number_or_zero (get_or block i None) < 2 ^ length old)
    (marks : now ≡ not_null ++ map is_some block) (long : length new ≡ length old)
    (pushed : (k : ℕ) → k < length old → bits_at new k ≡ bits_at old k ++ map (λ e. bit_at (number_or_zero e) k == 1) block) where
  marks_long : length now ≡ length not_null + length block
  marks_long = ap length marks ∙ length-append not_null (map is_some block) ∙ ap (λ n. length not_null + n) (length-map block is_some)

  -- the rows before the new ones
  mark_before : (r : ℕ) → r < length not_null → get_or now r false ≡ get_or not_null r false
  mark_before r below = ap (λ p. get_or p r false) marks ∙ get_or_append_left not_null (map is_some block) false r below

  number_before : (r : ℕ) → r < length not_null → number new r ≡ number old r
  number_before r below = number_same old new r long (λ k within.
      ap (λ b. get_or b r false) (pushed k within) ∙ get_or_append_left (bits_at old k) (map (λ e. bit_at (number_or_zero e) k == 1) block) false r (omega (arith, sliced.even k within)))

  -- and the new ones
  mark_of : (r : ℕ) → length not_null ≤ r → r < length now → get_or now r false ≡ is_some (get_or block (r - length not_null) None)
  mark_of r from within =
      ap (λ p. get_or p r false) marks
      ∙ get_or-append_right not_null (map is_some block) (length not_null) r false refl from
      ∙ get_or-map is_some block (r - length not_null) None false (omega (arith, marks_long))

  number_of : (r : ℕ) → length not_null ≤ r → r < length now → number new r ≡ number_or_zero (get_or block (r - length not_null) None)
  number_of r from within =
      let i = r - length not_null in
      placed_number new (number_or_zero (get_or block i None)) r (λ k below.
      let in_old : k < length old = omega (arith, long) in
      ap (λ b. get_or b r false) (pushed k in_old)
      ∙ get_or-append_right (bits_at old k) (map (λ e. bit_at (number_or_zero e) k == 1) block) (length not_null) r false (sliced.even k in_old) from
      ∙ get_or-map (λ e. bit_at (number_or_zero e) k == 1) block i None false (omega (arith, marks_long)))
      (rw long (fit i (omega (arith, marks_long))))

  as_entry : (e : Option ℕ) → (if is_some e then Some (number_or_zero e) else None) ≡ e
  as_entry None = refl
  as_entry (Some v) = refl

  -- the entries are the old ones and the new ones
  pub entries_more : entries_in now new ≡ entries_in not_null old ++ block
  unfolding entries_in
  entries_more =
      let long_old = length-entries_in not_null old in
      sym (fill_by_all (sliced_entry now new) (entries_in not_null old ++ block) (length now) None
      (length-append (entries_in not_null old) block ∙ ap (λ n. n + length block) long_old ∙ sym marks_long)
      (λ r below. elim (cases_lt r (length not_null)) [
        | inl before ↦
            get_or_append_left (entries_in not_null old) block None r (omega (arith, long_old))
            ∙ get_or-entries_in not_null old r None before
            ∙ sym (λ i. if mark_before r before i then Some (number_before r before i) else None)
        | inr from ↦
            get_or-append_right (entries_in not_null old) block (length not_null) r None long_old from
            ∙ sym (as_entry (get_or block (r - length not_null) None))
            ∙ sym (λ i. if mark_of r from below i then Some (number_of r from below i) else None)
      ]))

  null_zero : (e : Option ℕ) → is_some e ≡ false → number_or_zero e ≡ 0
  null_zero None none = refl
  null_zero (Some v) none = absurd (cc)

  -- the slices are a column's
  pub sliced_more : length now ≤ 2 ^ 32 → IsSliced now new
  sliced_more small = record {
    some = omega (arith, sliced.some);
    few = omega (arith, sliced.few);
    small = small;
    even = λ k within.
        let in_old : k < length old = omega arith in
        ap length (pushed k in_old)
        ∙ length-append (bits_at old k) (map (λ e. bit_at (number_or_zero e) k == 1) block)
        ∙ omega (arith, sliced.even k in_old, length-map block (λ e. bit_at (number_or_zero e) k == 1), marks_long);
    clear = λ r within null. elim (cases_lt r (length not_null)) [
      | inl before ↦ number_before r before ∙ sliced.clear r before (sym (mark_before r before) ∙ null)
      | inr from ↦ number_of r from within ∙ null_zero (get_or block (r - length not_null) None) (sym (mark_of r from within) ∙ null)
    ];
  }

-- the rows of another column of the same width
module _ (not_null others now : List Bool) (old more new : List BitList) (sliced : IsSliced not_null old) (other : IsSliced others more) (width : length more ≡ length old)
    (marks : now ≡ not_null ++ others) (long : length new ≡ length old)
    (pushed : (k : ℕ) → k < length old → bits_at new k ≡ bits_at old k ++ bits_at more k) where
  added_fit : (i : ℕ) → i < length (entries_in others more) → number_or_zero (get_or (entries_in others more) i None) < 2 ^ length old
  added_fit i within = rw (← width) (All-get_or (λ e. number_or_zero e < 2 ^ length more) (entries_in others more) i None within (entries_below others more))

  added_marks : now ≡ not_null ++ map is_some (entries_in others more)
  added_marks = marks ∙ ap (λ bits. not_null ++ bits) (not_null_of others more)

  added_places : (k : ℕ) → k < length old → bits_at new k ≡ bits_at old k ++ map (λ e. bit_at (number_or_zero e) k == 1) (entries_in others more)
  added_places k within = pushed k within ∙ ap (λ bits. bits_at old k ++ bits) (slice_of others more other k (omega (arith, width, within)))

  -- come after the old ones
  pub entries_all : entries_in now new ≡ entries_in not_null old ++ entries_in others more
  entries_all = entries_more not_null now old new (entries_in others more) sliced added_fit added_marks long added_places

  pub sliced_all : length now ≤ 2 ^ 32 → IsSliced now new
  sliced_all = sliced_more not_null now old new (entries_in others more) sliced added_fit added_marks long added_places
