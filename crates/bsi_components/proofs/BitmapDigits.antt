-- The digits that bitmaps hold are those that they were made of.
use Rattle.std.proofs.Common.{◌≡◌, ℕ, zero, suc, ◌+◌, ◌<◌, Bool, false, List, [], ◌∷◌, ◌++◌, length, map, get_or, inl, inr, ap, sym, ◌∙◌, arith}
use Rattle.std.proofs.lemmas.List.{length-map, get_or-map, map-append, get_or_past}
use Rattle.std.proofs.lemmas.List.FromFn.{fill_by_all}
use Rattle.std.proofs.lemmas.Bool.{cases_lt}
use Rattle.bsi_bits.specs.BitList.{BitList}
use Rattle.bsi_kernels.specs.Places.{IsEncoded}
use Rattle.bsi_components.specs.Bitmaps.{row, digits_by}
use Rattle.bsi_bits.specs.BitLists.{bits_at, no_bits}

module _ (holds : ℕ → ℕ → Bool) (rs : List BitList) (ds : List ℕ) (encoded : IsEncoded holds rs ds) where
  -- each bitmap has a bit for each digit
  pub length-bits_at : (j : ℕ) → j < length rs → length (bits_at rs j) ≡ length ds
  length-bits_at j below = ap length (encoded.each j below) ∙ length-map ds (holds j)

  -- a row's bits are those of its digit
  pub row_bits : (k : ℕ) → k < length ds → (j : ℕ) → j < length rs → get_or (row rs k) j false ≡ holds j (get_or ds k 0)
  row_bits k within j below =
      get_or-map (λ (b : BitList). get_or b.bits k false) rs j no_bits false below
      ∙ ap (λ bits. get_or bits k false) (encoded.each j below)
      ∙ get_or-map (holds j) ds k 0 false within

  -- digits that are found by their rows are those of the bitmaps
  pub digits_are : (digit : List Bool → ℕ) → 0 < length rs → ((k : ℕ) → k < length ds → digit (row rs k) ≡ get_or ds k 0) → ds ≡ digits_by digit rs
  unfolding digits_by
  digits_are digit some selection = fill_by_all (λ k. digit (row rs k)) ds (length (bits_at rs 0)) 0 (sym (length-bits_at 0 some)) (λ k below. sym (selection k (omega (arith, length-bits_at 0 some))))

-- bitmaps with more bits are those of more digits
pub encoded_more : (holds : ℕ → ℕ → Bool) (old new : List BitList) (ds block : List ℕ) → IsEncoded holds old ds → length new ≡ length old
    → ((j : ℕ) → j < length old → bits_at new j ≡ bits_at old j ++ map (holds j) block) → IsEncoded holds new (ds ++ block)
encoded_more holds old new ds block encoded same pushed = record {
  each = λ j below.
      let in_old : j < length old = omega arith in
      pushed j in_old ∙ ap (λ bits. bits ++ map (holds j) block) (encoded.each j in_old) ∙ sym (map-append (holds j) ds block);
}

-- bitmaps of the same bits are those of the same digits
pub encoded_same : (holds : ℕ → ℕ → Bool) (old new : List BitList) (ds : List ℕ) → IsEncoded holds old ds → length new ≡ length old → ((j : ℕ) → bits_at new j ≡ bits_at old j) → IsEncoded holds new ds
encoded_same holds old new ds encoded same bits = record {
  each = λ j below. bits j ∙ encoded.each j (omega arith);
}

-- empty bitmaps are those of no digits
pub encoded_none : (holds : ℕ → ℕ → Bool) (rs : List BitList) → ((j : ℕ) → bits_at rs j ≡ []) → IsEncoded holds rs []
encoded_none holds rs empty = record { each = λ j below. empty j }

-- more digits below the base
pub below_more : (ds block : List ℕ) (base : ℕ) → ((k : ℕ) → k < length block → get_or block k 0 < base) → ((k : ℕ) → get_or ds k 0 < base) → (k : ℕ) → get_or (ds ++ block) k 0 < base
below_more [] block base new old k = elim (cases_lt k (length block)) [
  | inl within ↦ new k within
  | inr past ↦ omega (arith, get_or_past block k 0 past, old 0)
]
below_more (v ∷ ds) block base new old zero = old zero
below_more (v ∷ ds) block base new old (suc k) = below_more ds block base new (λ i. old (suc i)) k

pub one_below : (d base : ℕ) → d < base → (k : ℕ) → k < 1 → get_or (d ∷ []) k 0 < base
one_below d base below zero within = below
one_below d base below (suc k) within = absurd (omega arith)
