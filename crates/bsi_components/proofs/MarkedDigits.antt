-- The digits of a component of bitmaps.
use Rattle.std.proofs.Common.{◌≡◌, ℕ, zero, suc, ◌+◌, ◌-◌, ◌<◌, ◌≤◌, Bool, true, false, cond, not, List, [], ◌∷◌, ◌++◌, length, map, get_or, inl, inr, ap, sym, ◌∙◌, refl, arith, subst}
use Rattle.std.proofs.lemmas.Bool.{cases_eq}
use Rattle.bsi_bits.specs.BitList.{BitList}
use Rattle.bsi_bits.specs.BitLists.{bits_at}
use Rattle.bsi_kernels.specs.Places.{then_places, IsCount}
use Rattle.bsi_kernels.proofs.PlaceBitmaps.{own_test, count_same}
use Rattle.bsi_components.specs.Bitmaps.{row, stored_places}
use Rattle.bsi_components.specs.Encodings.{last_like, digits_in, shows, IsMarked, IsMarking}
use Rattle.bsi_components.proofs.BitmapDigits.{length-bits_at, row_bits, digits_are, encoded_none, encoded_more, encoded_same, below_more}

-- a bit that is the mark of a digit itself, and one that is not
like_own : (mark bit : Bool) → bit ≡ mark → cond mark bit (not bit) ≡ true
like_own true bit same = same
like_own false bit same = ap not same

unlike_own : (mark bit : Bool) → bit ≡ not mark → cond mark bit (not bit) ≡ false
unlike_own true bit other = other
unlike_own false bit other = ap not other

module _ {first : ℕ → ℕ} {marks : ℕ → ℕ → Bool} (sound : IsMarking first marks) where
  -- the last digit like it is the digit itself
  like_digit : (base v : ℕ) (bits : List Bool) (n : ℕ) → v < first base + n → ((i : ℕ) → i < n → get_or bits i false ≡ marks (first base + i) v) → last_like marks (first base) n bits ≡ v
  like_digit base v bits zero below each = let low = sound.low base in omega (arith, low)
  like_digit base v bits (suc n) below each =
      let w = first base + n in
      let mark = marks w w in
      let rest = last_like marks (first base) n bits in
      let bit = each n (omega arith) in
      elim (cases_eq v w) [
        | inl same ↦
            ap (λ b. cond b w rest) (like_own mark (get_or bits n false) (bit ∙ ap (marks w) same)) ∙ sym same
        | inr apart ↦
            ap (λ b. cond b w rest) (unlike_own mark (get_or bits n false) (bit ∙ sound.distinguishes v w (omega arith)))
            ∙ like_digit base v bits n (omega arith) (λ i within. each i (omega arith))
      ]

  module _ {base : ℕ} {rs : List BitList} {ds : List ℕ} (marked : IsMarked first marks base rs ds) where
    -- there is a bitmap
    pub some_bitmap : 0 < length rs
    some_bitmap = let low = sound.low base in omega (arith, low, marked.count.owned, marked.least)

    -- the digits of a component are those that its bitmaps show
    pub marked_digits : ds ≡ digits_in first marks base rs
    marked_digits =
        let own = base - first base in
        digits_are (shows first marks base) rs ds marked.encoded (last_like marks (first base) own) some_bitmap (λ k within.
        let v = get_or ds k 0 in
        let low = sound.low base in
        like_digit base v (row rs k) own (omega (arith, low, marked.below k, marked.least)) (λ i below.
        row_bits (shows first marks base) rs ds marked.encoded k within i (omega (arith, below, marked.count.owned))
        ∙ own_test own (λ i v. marks (first base + i) v) i v below))

    pub itself_marked : IsMarked first marks base rs (digits_in first marks base rs)
    itself_marked = subst (λ (xs : List ℕ). IsMarked first marks base rs xs) marked_digits marked

    -- the first bitmap has a bit for each digit
    pub marked_rows : length (bits_at rs 0) ≡ length ds
    marked_rows = length-bits_at (shows first marks base) rs ds marked.encoded 0 some_bitmap

module _ {first : ℕ → ℕ} {marks : ℕ → ℕ → Bool} where
  -- no digits in empty bitmaps
  pub marked_none : (base : ℕ) (rs : List BitList) → 2 ≤ base → base ≤ 1024 → IsCount base (base - first base) (length rs) → length rs ≡ base - first base + stored_places base
      → ((j : ℕ) → bits_at rs j ≡ []) → IsMarked first marks base rs []
  marked_none base rs least most count many empty = record {
    count = count;
    many = many;
    least = least;
    most = most;
    below = λ k. omega arith;
    encoded = encoded_none (shows first marks base) rs empty;
  }

  module _ {base : ℕ} {old : List BitList} {ds : List ℕ} (marked : IsMarked first marks base old ds) (new : List BitList) (same : length new ≡ length old) where
    -- more digits in bitmaps with more bits
    pub marked_more : (block : List ℕ) → ((k : ℕ) → k < length block → get_or block k 0 < base)
        → ((j : ℕ) → j < length old → bits_at new j ≡ bits_at old j ++ map (shows first marks base j) block) → IsMarked first marks base new (ds ++ block)
    marked_more block below pushed = record {
      count = count_same base (base - first base) (length old) (length new) same marked.count;
      many = same ∙ marked.many;
      least = marked.least;
      most = marked.most;
      below = below_more ds block base below marked.below;
      encoded = encoded_more (shows first marks base) old new ds block marked.encoded same pushed;
    }

    -- no digits where all bits are removed
    pub marked_cleared : ((j : ℕ) → bits_at new j ≡ []) → IsMarked first marks base new []
    marked_cleared empty =
        marked_none base new marked.least marked.most (count_same base (base - first base) (length old) (length new) same marked.count) (same ∙ marked.many) empty

    -- the same digits in bitmaps of the same bits
    pub marked_same : ((j : ℕ) → bits_at new j ≡ bits_at old j) → IsMarked first marks base new ds
    marked_same bits = record {
      count = count_same base (base - first base) (length old) (length new) same marked.count;
      many = same ∙ marked.many;
      least = marked.least;
      most = marked.most;
      below = marked.below;
      encoded = encoded_same (shows first marks base) old new ds marked.encoded same bits;
    }

  -- the digits of one component behind those of another of the same base
  module _ {base other : ℕ} {old others : List BitList} {ds more : List ℕ} (marked : IsMarked first marks base old ds) (appended : IsMarked first marks other others more) (same_base : other ≡ base) where
    pub marked_count : length others ≡ length old
    marked_count = appended.many ∙ ap (λ b. b - first b + stored_places b) same_base ∙ sym marked.many

    pub marked_joined : (new : List BitList) → length new ≡ length old → ((j : ℕ) → j < length old → bits_at new j ≡ bits_at old j ++ bits_at others j) → IsMarked first marks base new (ds ++ more)
    marked_joined new same joined =
        marked_more marked new same more (λ k within. omega (arith, appended.below k, same_base)) (λ j below.
        joined j below ∙ ap (λ bits. bits_at old j ++ bits) (appended.encoded.each j (omega (arith, below, marked_count)) ∙ ap (λ b. map (shows first marks b j) more) same_base))
