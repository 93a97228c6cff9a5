-- The entries of a column of slices, and rows that are added to them.
use Rattle.std.proofs.Common.{◌≡◌, ℕ, zero, suc, ◌+◌, ◌*◌, ◌^◌, ◌<◌, ◌≤◌, Bool, true, false, not, List, [], ◌∷◌, ◌++◌, length, get_or, map, All, Option, Some, None, is_some, is_none, inl, inr, sym, ◌∙◌, ap, refl, arith}
use Rattle.std.specs.Prelude.{◌==◌, if◌then◌else◌}
use Rattle.std.specs.Int.{bit_at}
use Rattle.std.specs.List.{range_with_len}
use Rattle.std.proofs.Math.Seq.{get_or-append_seam}
use Rattle.std.proofs.lemmas.Bool.{cases_lt}
use Rattle.std.proofs.lemmas.List.{get_or_append_left, get_or_past, length-map, get_or-map}
use Rattle.std.proofs.lemmas.List.Elements.{All-from_get_or}
use Rattle.std.proofs.lemmas.List.FromFn.{length-map-range_with_len, get_or-map-range_with_len, fill_by_all}
use Rattle.bsi_bits.specs.BitList.{BitList}
use Rattle.bsi_digits.specs.Comparisons.{number_or_zero}
use Rattle.bsi_bits.specs.BitLists.{bits_at, no_bits}
use Rattle.bsi_slices.specs.Slices.{bit_value, number, sliced_entry, entries_in, IsSliced}
use Rattle.bsi_slices.proofs.SliceNumbers.{number_below, number_place}

-- two functions that agree below n
pub same_below : {X : Type 0} (default : X) (f g : ℕ → X) (n : ℕ) → ((r : ℕ) → r < n → f r ≡ g r) → map f (range_with_len 0 n) ≡ map g (range_with_len 0 n)
same_below default f g n each =
    fill_by_all g (map f (range_with_len 0 n)) n default (length-map-range_with_len f 0 n)
    (λ i within. get_or-map-range_with_len f 0 n i i default within (omega arith) ∙ each i within)

-- an element of the slices as it is read
pub slice_read : (slices : List BitList) (i : ℕ) (slice : BitList) → i < length slices → slice ≡ get_or slices i slice → slice.bits ≡ bits_at slices i
slice_read [] i slice within is = absurd (omega arith)
slice_read (s ∷ slices) zero slice within is = ap (λ b. b.bits) is
slice_read (s ∷ slices) (suc i) slice within is = slice_read slices i slice (omega arith) is

-- as many entries as there are marks
pub length-entries_in : (not_null : List Bool) (slices : List BitList) → length (entries_in not_null slices) ≡ length not_null
unfolding entries_in
length-entries_in not_null slices = length-map-range_with_len (sliced_entry not_null slices) 0 (length not_null)

-- entry r
pub get_or-entries_in : (not_null : List Bool) (slices : List BitList) (r : ℕ) (d : Option ℕ) → r < length not_null → get_or (entries_in not_null slices) r d ≡ sliced_entry not_null slices r
unfolding entries_in
get_or-entries_in not_null slices r d within = get_or-map-range_with_len (sliced_entry not_null slices) 0 (length not_null) r r d within (omega arith)

-- and past the last one none is there
pub sliced_at : (not_null : List Bool) (slices : List BitList) (r : ℕ) → get_or (entries_in not_null slices) r None ≡ sliced_entry not_null slices r
sliced_at not_null slices r = elim (cases_lt r (length not_null)) [
  | inl within ↦ get_or-entries_in not_null slices r None within
  | inr past ↦
      get_or_past (entries_in not_null slices) r None (omega (arith, past, length-entries_in not_null slices))
      ∙ sym (ap (λ b. if b then Some (number slices r) else None) (get_or_past not_null r false past))
]

-- a list that has at each row a function of its entry
pub by_entries : {X : Type 0} (f : Option ℕ → X) (not_null : List Bool) (slices : List BitList) (d : X) (xs : List X) → length xs ≡ length not_null
    → ((r : ℕ) → r < length not_null → get_or xs r d ≡ f (sliced_entry not_null slices r)) → xs ≡ map f (entries_in not_null slices)
by_entries f not_null slices d xs long each =
    fill_by_all (λ r. f (sliced_entry not_null slices r)) xs (length not_null) d long each
    ∙ sym (fill_by_all (λ r. f (sliced_entry not_null slices r)) (map f (entries_in not_null slices)) (length not_null) d
    (length-map (entries_in not_null slices) f ∙ length-entries_in not_null slices)
    (λ r within. get_or-map f (entries_in not_null slices) r None d (omega (arith, length-entries_in not_null slices)) ∙ ap f (get_or-entries_in not_null slices r None within)))

-- no mark, no row
pub entries_in-nil : (not_null : List Bool) (slices : List BitList) → not_null ≡ [] → entries_in not_null slices ≡ []
unfolding entries_in
entries_in-nil not_null slices none = ap (λ p. map (sliced_entry p slices) (range_with_len 0 (length p))) none

-- the marks of the entries that are there, and of the others
pub not_null_of : (not_null : List Bool) (slices : List BitList) → not_null ≡ map is_some (entries_in not_null slices)
not_null_of not_null slices = by_entries is_some not_null slices false not_null refl (λ r within. marked (get_or not_null r false) (number slices r))
  where
    marked : (there : Bool) (m : ℕ) → there ≡ is_some (if there then Some m else None)
    marked true m = refl
    marked false m = refl

pub nulls_are : (es : List (Option ℕ)) → map not (map is_some es) ≡ map is_none es
nulls_are [] = refl
nulls_are (None ∷ es) = ap (λ xs. not (is_some {T = ℕ} None) ∷ xs) (nulls_are es)
nulls_are (Some x ∷ es) = ap (λ xs. not (is_some (Some x)) ∷ xs) (nulls_are es)

-- what is stored of row r
pub stored_number : (not_null : List Bool) (slices : List BitList) → IsSliced not_null slices → (r : ℕ) → r < length not_null → number_or_zero (sliced_entry not_null slices r) ≡ number slices r
stored_number not_null slices sliced r within = of_mark (get_or not_null r false) (number slices r) (sliced.clear r within)
  where
    of_mark : (there : Bool) (m : ℕ) → (there ≡ false → m ≡ 0) → number_or_zero (if there then Some m else None) ≡ m
    of_mark true m zero_else = refl
    of_mark false m zero_else = sym (zero_else refl)

-- slice k is binary place k of what is stored
pub slice_of : (not_null : List Bool) (slices : List BitList) → IsSliced not_null slices → (k : ℕ) → k < length slices
    → bits_at slices k ≡ map (λ e. bit_at (number_or_zero e) k == 1) (entries_in not_null slices)
slice_of not_null slices sliced k within =
    by_entries (λ e. bit_at (number_or_zero e) k == 1) not_null slices false (bits_at slices k) (sliced.even k within)
    (λ r below. sym (ap (λ x. bit_at x k == 1) (stored_number not_null slices sliced r below) ∙ number_place slices r k within))

-- each entry is below two to the power of the width
pub entries_below : (not_null : List Bool) (slices : List BitList) → All (λ e. number_or_zero e < 2 ^ length slices) (entries_in not_null slices)
entries_below not_null slices =
    All-from_get_or (λ e. number_or_zero e < 2 ^ length slices) (entries_in not_null slices) None
    (λ r within.
    let below : r < length not_null = omega (arith, length-entries_in not_null slices) in
    rw (get_or-entries_in not_null slices r None below) (of_mark (get_or not_null r false) (number slices r) (number_below slices r)))
  where
    of_mark : (there : Bool) (m : ℕ) → m < 2 ^ length slices → number_or_zero (if there then Some m else None) < 2 ^ length slices
    of_mark true m small = small
    of_mark false m small = omega arith

-- slices that have the same bits in row r
pub number_same : (old new : List BitList) (r : ℕ) → length new ≡ length old
    → ((k : ℕ) → k < length old → get_or (bits_at new k) r false ≡ get_or (bits_at old k) r false) → number new r ≡ number old r
unfolding number
number_same [] [] r long same = refl
number_same [] (s ∷ new) r long same = absurd (omega arith)
number_same (t ∷ old) [] r long same = absurd (omega arith)
number_same (t ∷ old) (s ∷ new) r long same =
    (λ i. bit_value (same 0 (omega arith) i) + 2 * number_same old new r (omega arith) (λ k below. same (suc k) (omega arith)) i)

module _ (not_null now : List Bool) (old new : List BitList) (marks : now ≡ not_null) (long : length new ≡ length old) (same : (k : ℕ) → k < length old → bits_at new k ≡ bits_at old k) where
  alike : (r : ℕ) → number new r ≡ number old r
  alike r = number_same old new r long (λ k within. ap (λ b. get_or b r false) (same k within))

  -- slices with the same bits have the same entries
  pub entries_same : entries_in now new ≡ entries_in not_null old
  unfolding entries_in
  entries_same =
      ap (λ p. map (sliced_entry p new) (range_with_len 0 (length p))) marks
      ∙ same_below None (sliced_entry not_null new) (sliced_entry not_null old) (length not_null)
      (λ r below. ap (λ m. if get_or not_null r false then Some m else None) (alike r))

  -- and are a column's as well
  pub sliced_same : IsSliced not_null old → IsSliced now new
  sliced_same sliced = record {
    some = omega (arith, sliced.some);
    few = omega (arith, sliced.few);
    small = omega (arith, sliced.small, ap length marks);
    even = λ k within. ap length (same k (omega arith)) ∙ sliced.even k (omega arith) ∙ sym (ap length marks);
    clear = λ r within null. alike r ∙ sliced.clear r (omega (arith, ap length marks)) (ap (λ p. get_or p r false) (sym marks) ∙ null);
  }
