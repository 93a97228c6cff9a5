-- Columns that are made of their bitmaps.
use Rattle.std.proofs.Common.{◌≡◌, ◌≢◌, ℕ, zero, suc, ◌+◌, ◌/◌, ◌%◌, ◌^◌, ◌<◌, ◌≤◌, Bool, false, List, [], ◌∷◌, ◌++◌, length, get_or, map, take, drop, refl, sym, ap, ap₂, subst, ◌∙◌, true≢false, append_assoc, append-nil, inl, inr, arith}
use Rattle.std.specs.Prelude.{All, Option, Some, None, is_some, IfNone, IfSome, ◌==◌}
use Rattle.std.specs.List.{flat_map, range_with_len}
use Rattle.std.proofs.Math.Nat.{mod-eq_of_lt, zero-div, zero-mod}
use Rattle.std.proofs.Math.Seq.{get_or-append_seam}
use Rattle.std.proofs.lemmas.Bool.{cases_lt}
use Rattle.std.proofs.lemmas.List.{get_or-append-add, get_or-drop, get_or-map, get_or-take, get_or_append_left, length-append, length-map, length-take-le, length-drop, map-append, take-append-drop, take_more}
use Rattle.std.proofs.lemmas.List.Elements.{All-append, All-get_or, All-map, All-nil}
use Rattle.std.proofs.lemmas.Nat.{mod_below}
use Rattle.std.proofs.lemmas.List.FromFn.{fill_by_all, get_or-map-range_with_len, length-map-range_with_len}
use Rattle.bsi_bits.specs.BitList.{BitList}
use Rattle.bsi_bits.specs.BitLists.{bits_at}
use Rattle.bsi_components.specs.PlaceNumbers.{numbers_in, place_count, AreLevel, HasNumberPastBase}
use Rattle.bsi_components.proofs.PlaceCounts.{count_enough, count_few}
use Rattle.bsi_components.proofs.PlaceNumbers.{length-numbers_in, no_place, numbers_are, places_are}
use Rattle.bsi_digits.specs.Digits.{digit_of, weight, IsBase, IsBaseList}
use Rattle.bsi_digits.specs.Comparisons.{number_or_zero}
use Rattle.bsi_kernels.specs.Nulls.{AreClearAtNulls, HasBitOfNull}
use Rattle.bsi_kernels.specs.Places.{has_place, IsEncoded}
use Rattle.bsi_columns.specs.ComponentPlaces.{component_bitmaps, digit_bitmaps}
use Rattle.bsi_columns.specs.Decomposed.{AreDigitsBelow, Decomposes}
use Rattle.bsi_columns.specs.StoredBitmaps.{bits_each, bitmaps_by, digit_places, places_under, slice_places, HaveNoEntriesBelow}
use Rattle.bsi_columns.proofs.ColumnPlaces.{component_bitmaps_of, digits_in, maps_twice, rows_of_test}
use Rattle.bsi_columns.proofs.PieceLists.{piece_at, pieces_long, pieces_more, pieces_same, pieces_within}

-- a list without its first vector
pub split_first : (old rest : List BitList) (first : BitList) → 0 < length old → first ≡ get_or old 0 first → rest ≡ take 0 old ++ drop (0 + 1) old → old ≡ first ∷ rest
split_first [] rest first some is rest_is = absurd (omega arith)
split_first (x ∷ xs) rest first some is rest_is = ap₂ ◌∷◌ (sym is) (sym rest_is)

-- the bits of a vector, as they are read
pub read_bits : (vectors : List BitList) (k : ℕ) → get_or (bits_each vectors) k [] ≡ bits_at vectors k
read_bits [] k = refl
read_bits (x ∷ xs) zero = refl
read_bits (x ∷ xs) (suc k) = read_bits xs k

pub length-bits_each : (vectors : List BitList) → length (bits_each vectors) ≡ length vectors
length-bits_each vectors = length-map vectors (λ vector. vector.bits)

-- binary places of digits
pub bits_of_digits : (places : List BitList) (base : ℕ) (ds : List ℕ) → length places ≡ place_count base → IsEncoded has_place places ds → bits_each places ≡ digit_bitmaps base ds
bits_of_digits places base ds long encoded =
    fill_by_all (λ k. map (has_place k) ds) (bits_each places) (place_count base) [] (length-bits_each places ∙ long)
    (λ k within. read_bits places k ∙ encoded.each k (omega (arith, within, long)))

-- the slices of entries
pub bits_of_slices : (slices : List BitList) (w : ℕ) (entries : List (Option ℕ)) → length slices ≡ w
    → ((k : ℕ) → k < length slices → bits_at slices k ≡ map (λ e. has_place k (number_or_zero e)) entries) → bits_each slices ≡ map (rows_of_test entries) (slice_places w)
bits_of_slices slices w entries long each =
    fill_by_all (λ k. map (λ e. has_place k (number_or_zero e)) entries) (bits_each slices) w [] (length-bits_each slices ∙ long)
    (λ k within. read_bits slices k ∙ each k (omega (arith, within, long)))
    ∙ sym (maps_twice has_place (rows_of_test entries) (range_with_len 0 w))

-- ---- a null has no bit

zero_place : (k : ℕ) → has_place k 0 ≡ false
zero_place k = ap (λ n. n % 2 == 1) (zero-div (2 ^ k))

pub slices_of_zero : (w : ℕ) → All (λ test. test 0 ≡ false) (slice_places w)
slices_of_zero w = All-map (λ (test : ℕ → Bool). test 0 ≡ false) has_place (range_with_len 0 w) (λ i d within. zero_place (get_or (range_with_len 0 w) i d))

zero_digit : (bs : List ℕ) (i : ℕ) → digit_of bs 0 i ≡ 0
zero_digit bs i = ap (λ n. n % get_or bs i 0) (zero-div (weight bs i)) ∙ zero-mod (get_or bs i 0)

digits_of_zero : (bs : List ℕ) (n : ℕ) → All (λ test. test 0 ≡ false) (flat_map (digit_places bs) (range_with_len 0 n))
digits_of_zero bs zero = All-nil (λ (test : ℕ → Bool). test 0 ≡ false)
digits_of_zero bs (suc n) =
    let e : n + 1 ≡ suc n = omega arith in
    let here : All (λ test. test 0 ≡ false) (digit_places bs n) =
    All-map (λ (test : ℕ → Bool). test 0 ≡ false) (λ (k : ℕ). λ (v : ℕ). has_place k (digit_of bs v n)) (range_with_len 0 (place_count (get_or bs n 0)))
    (λ i d within. ap (has_place (get_or (range_with_len 0 (place_count (get_or bs n 0))) i d)) (zero_digit bs n) ∙ zero_place (get_or (range_with_len 0 (place_count (get_or bs n 0))) i d)) in
    subst (λ k. All (λ test. test 0 ≡ false) (flat_map (digit_places bs) (range_with_len 0 k))) e
    (subst (All (λ (test : ℕ → Bool). test 0 ≡ false)) (sym (pieces_more (digit_places bs) n))
    (All-append (λ (test : ℕ → Bool). test 0 ≡ false) (flat_map (digit_places bs) (range_with_len 0 n)) (digit_places bs n) (digits_of_zero bs n) here))

pub places_of_zero : (bs : List ℕ) → All (λ test. test 0 ≡ false) (places_under bs)
places_of_zero bs = digits_of_zero bs (length bs)

null_row : (test : ℕ → Bool) (entries : List (Option ℕ)) (r : ℕ) → test 0 ≡ false → r < length entries → get_or (map is_some entries) r false ≡ false → get_or (rows_of_test entries test) r false ≡ false
null_row test [] r off within null = refl
null_row test (None ∷ entries) zero off within null = off
null_row test (Some x ∷ entries) zero off within null = absurd (true≢false null)
null_row test (e ∷ entries) (suc r) off within null = null_row test entries r off (omega arith) null

head_of : (x y : List Bool) (xs ys : List (List Bool)) → x ∷ xs ≡ y ∷ ys → x ≡ y
head_of x y xs ys same = ap (λ rows. get_or rows 0 []) same

rest_of : (x y : List Bool) (xs ys : List (List Bool)) → x ∷ xs ≡ y ∷ ys → xs ≡ ys
rest_of x y xs ys same = ap (λ rows. drop 1 rows) same

module _ (tests : List (ℕ → Bool)) (entries : List (Option ℕ)) (not_null : List Bool) (places : List BitList) (same : bitmaps_by tests entries ≡ not_null ∷ bits_each places) where
  pub not_null_same : map is_some entries ≡ not_null
  not_null_same = head_of (map is_some entries) not_null (map (rows_of_test entries) tests) (bits_each places) same

  pub places_same : map (rows_of_test entries) tests ≡ bits_each places
  places_same = rest_of (map is_some entries) not_null (map (rows_of_test entries) tests) (bits_each places) same

  -- so no null has a bit
  pub no_null_bit : All (λ test. test 0 ≡ false) tests → HasBitOfNull not_null places → ⊥
  no_null_bit zeros bit =
      let k = bit.0 in
      let r = bit.1 in
      let there : k < length tests = omega (arith, bit.2, ap length places_same, length-map tests (rows_of_test entries), length-bits_each places) in
      let no_test : ℕ → Bool = λ n. false in
      let place : bits_at places k ≡ rows_of_test entries (get_or tests k no_test) =
      sym (read_bits places k) ∙ ap (λ rows. get_or rows k []) (sym places_same) ∙ get_or-map (rows_of_test entries) tests k no_test [] there in
      let inside : r < length entries = omega (arith, bit.3, ap length not_null_same, length-map entries is_some) in
      let clear = null_row (get_or tests k no_test) entries r (All-get_or (λ test. test 0 ≡ false) tests k no_test there zeros) inside (ap (λ bits. get_or bits r false) not_null_same ∙ bit.4) in
      true≢false (sym bit.5 ∙ ap (λ bits. get_or bits r false) place ∙ clear)

-- ---- components

abbrev piece : List ℕ → List (List ℕ) → ℕ → List (List Bool)
piece bs ds i = digit_bitmaps (get_or bs i 0) (get_or ds i [])

piece_long : (bs : List ℕ) (ds : List (List ℕ)) (i : ℕ) → length (piece bs ds i) ≡ place_count (get_or bs i 0)
piece_long bs ds i = length-map-range_with_len (λ k. map (has_place k) (get_or ds i [])) 0 (place_count (get_or bs i 0))

pub tests_long : (bs : List ℕ) (i : ℕ) → length (digit_places bs i) ≡ place_count (get_or bs i 0)
tests_long bs i = length-map-range_with_len (λ (k : ℕ). λ (n : ℕ). has_place k (digit_of bs n i)) 0 (place_count (get_or bs i 0))

before_long : (bs : List ℕ) (ds : List (List ℕ)) (i : ℕ) → length (flat_map (piece bs ds) (range_with_len 0 i)) ≡ length (flat_map (digit_places bs) (range_with_len 0 i))
before_long bs ds i = pieces_long (piece bs ds) (digit_places bs) i (λ j within. piece_long bs ds j ∙ sym (tests_long bs j))

-- place k of the digits of component i stands there
place_of : (bs : List ℕ) (ds : List (List ℕ)) (i k : ℕ) → i < length bs → k < place_count (get_or bs i 0)
    → get_or (component_bitmaps bs ds) (length (flat_map (digit_places bs) (range_with_len 0 i)) + k) [] ≡ map (has_place k) (get_or ds i [])
place_of bs ds i k within inside =
    ap (λ n. get_or (component_bitmaps bs ds) (n + k) []) (sym (before_long bs ds i))
    ∙ piece_at (piece bs ds) (length bs) i k [] within (omega (arith, inside, piece_long bs ds i))
    ∙ get_or-map-range_with_len (λ k. map (has_place k) (get_or ds i [])) 0 (place_count (get_or bs i 0)) k k [] inside (omega arith)

pub place_within : (bs : List ℕ) (i k : ℕ) → i < length bs → k < place_count (get_or bs i 0) → length (flat_map (digit_places bs) (range_with_len 0 i)) + k < length (places_under bs)
place_within bs i k within inside = omega (arith, inside, tests_long bs i, pieces_within (digit_places bs) (length bs) i within)

-- digits whose places are clear at nulls are 0 there
pub digits_clear : (bs : List ℕ) (not_null : List Bool) (places : List BitList) (ds : List (List ℕ)) (rows : ℕ) → IsBaseList bs → AreDigitsBelow bs rows ds → length places ≡ length (places_under bs)
    → component_bitmaps bs ds ≡ bits_each places → AreClearAtNulls not_null places → rows ≡ length not_null
    → (i r : ℕ) → i < length bs → r < length not_null → get_or not_null r false ≡ false → get_or (get_or ds i []) r 0 ≡ 0
digits_clear bs not_null places ds rows valid below long same clear even i r within inside null =
    let v = get_or (get_or ds i []) r 0 in
    let n = place_count (get_or bs i 0) in
    let small : v < 2 ^ n = omega (arith, below.below i r within, count_enough (get_or bs i 0) (valid.each i within)) in
    let zeros : (k : ℕ) → k < n → has_place k v ≡ false = λ k few.
    let at = length (flat_map (digit_places bs) (range_with_len 0 i)) + k in
    let there : at < length places = omega (arith, long, place_within bs i k within few) in
    let row : map (has_place k) (get_or ds i []) ≡ bits_at places at = sym (place_of bs ds i k within few) ∙ ap (λ rows. get_or rows at []) same ∙ read_bits places at in
    sym (get_or-map (has_place k) (get_or ds i []) r 0 false (omega (arith, inside, even, below.rows_are i within)))
    ∙ ap (λ bits. get_or bits r false) row ∙ clear at r there inside null in
    sym (mod_small v n small) ∙ no_place v n zeros
  where
    mod_small : (v n : ℕ) → v < 2 ^ n → v % 2 ^ n ≡ v
    mod_small v n small = mod-eq_of_lt small

-- the components so far, and the places that are left
pub record IsReadUpTo (bs : List ℕ) (places : List BitList) (i : ℕ) (bases : List ℕ) (ds : List (List ℕ)) (left : List BitList) : Type 0 where
  pub long : length ds ≡ i
  pub bases_are : bases ≡ take i bs
  pub below : (j r : ℕ) → j < i → get_or (get_or ds j []) r 0 < get_or bs j 0
  pub rows_are : (j : ℕ) → j < i → length (get_or ds j []) ≡ length (bits_at places 0)
  pub bitmaps : bits_each places ≡ flat_map (piece bs ds) (range_with_len 0 i) ++ bits_each left
  pub even : (k : ℕ) → k < length left → length (bits_at left k) ≡ length (bits_at places 0)

pub read_none : (bs : List ℕ) (places : List BitList) → ((k : ℕ) → k < length places → length (bits_at places k) ≡ length (bits_at places 0)) → IsReadUpTo bs places 0 [] [] places
read_none bs places even = record {
  long = refl;
  bases_are = refl;
  below = λ j r within. absurd (omega arith);
  rows_are = λ j within. absurd (omega arith);
  bitmaps = refl;
  even = even;
}

module _ (bs : List ℕ) (places : List BitList) (i : ℕ) (bases : List ℕ) (ds : List (List ℕ)) (left : List BitList) (read : IsReadUpTo bs places i bases ds left)
    (long : length places ≡ length (places_under bs)) (within : i < length bs) where
  -- there are enough for one component more
  pub enough_left : place_count (get_or bs i 0) ≤ length left
  enough_left =
      let all = ap length read.bitmaps in
      omega (
        arith,
        all,
        length-bits_each places,
        length-bits_each left,
        length-append (flat_map (piece bs ds) (range_with_len 0 i)) (bits_each left),
        before_long bs ds i,
        long,
        pieces_within (digit_places bs) (length bs) i within,
        tests_long bs i,
      )

  module _ (own : List BitList) (own_is : own ≡ take (place_count (get_or bs i 0)) left) (is_base : IsBase (get_or bs i 0)) where
    pub own_long : length own ≡ place_count (get_or bs i 0)
    own_long = ap length own_is ∙ length-take-le (place_count (get_or bs i 0)) left enough_left

    own_read : (k : ℕ) → k < length own → bits_at own k ≡ bits_at left k
    own_read k inside =
        ap (λ vectors. bits_at vectors k) own_is
        ∙ ap (λ vector. vector.bits) (get_or-take (place_count (get_or bs i 0)) left k _ (omega (arith, inside, own_long)))

    own_rows : (k : ℕ) → k < length own → length (bits_at own k) ≡ length (bits_at places 0)
    own_rows k inside = ap length (own_read k inside) ∙ read.even k (omega (arith, inside, own_long, enough_left))

    pub own_level : AreLevel own
    own_level =
        let some : 0 < length own = omega (arith, own_long, count_few (get_or bs i 0) is_base) in
        record { some = some; even = λ k inside. own_rows k inside ∙ sym (own_rows 0 some) }

    -- digits of other components that have these bitmaps are these numbers
    others_digits : (others : List (List ℕ)) (rows : ℕ) → AreDigitsBelow bs rows others → component_bitmaps bs others ≡ bits_each places → numbers_in own ≡ get_or others i []
    others_digits others rows below same =
        let n = place_count (get_or bs i 0) in
        let encoded : IsEncoded has_place own (get_or others i []) = record {
          each = λ k inside.
              let few : k < n = omega (arith, inside, own_long) in
              let before = flat_map (piece bs ds) (range_with_len 0 i) in
              let at = length (flat_map (digit_places bs) (range_with_len 0 i)) + k in
              own_read k inside ∙ sym (read_bits left k) ∙ sym (get_or-append-add before (bits_each left) k [])
              ∙ ap (λ rows. get_or rows (length before + k) []) (sym read.bitmaps)
              ∙ ap (λ m. get_or (bits_each places) (m + k) []) (before_long bs ds i)
              ∙ ap (λ rows. get_or rows at []) (sym same)
              ∙ place_of bs others i k within few;
        } in
        let most : get_or bs i 0 ≤ 2 ^ length own = subst (λ (m : ℕ). get_or bs i 0 ≤ 2 ^ m) (sym own_long) (count_enough (get_or bs i 0) is_base) in
        numbers_are own (get_or others i []) own_level.some encoded (λ r. omega (arith, below.below i r within, most))

    pub no_others : HasNumberPastBase (get_or bs i 0) (numbers_in own) → (others : List (List ℕ)) → AreDigitsBelow bs (length (bits_at places 0)) others → component_bitmaps bs others ≢ bits_each places
    no_others past others below same =
        let is = others_digits others (length (bits_at places 0)) below same in
        omega (arith, past.2, ap (λ numbers. get_or numbers past.0 0) is, below.below i past.0 within)

    -- one component more
    module _ (rest : List BitList) (rest_is : rest ≡ drop (place_count (get_or bs i 0)) left) (digits : List ℕ) (digits_are : digits ≡ numbers_in own)
        (small : (r : ℕ) → get_or (numbers_in own) r 0 < get_or bs i 0) (base : ℕ) (base_is : base ≡ get_or bs i 0) where
      earlier : (j : ℕ) → j < i → get_or (ds ++ digits ∷ []) j [] ≡ get_or ds j []
      earlier j before = get_or_append_left ds (digits ∷ []) [] j (omega (arith, before, read.long))

      here : get_or (ds ++ digits ∷ []) i [] ≡ digits
      here = ap (λ k. get_or (ds ++ digits ∷ []) k []) (sym read.long) ∙ get_or-append_seam ds digits [] []

      split : bits_each left ≡ bits_each own ++ bits_each rest
      split =
          ap bits_each (sym (take-append-drop (place_count (get_or bs i 0)) left))
          ∙ map-append (λ (vector : BitList). vector.bits) (take (place_count (get_or bs i 0)) left) (drop (place_count (get_or bs i 0)) left)
          ∙ ap₂ (λ (a b : List BitList). bits_each a ++ bits_each b) (sym own_is) (sym rest_is)

      own_bits : bits_each own ≡ digit_bitmaps (get_or bs i 0) digits
      own_bits = bits_of_digits own (get_or bs i 0) digits own_long (subst (IsEncoded has_place own) (sym digits_are) (places_are own own_level))

      pub read_more : IsReadUpTo bs places (i + 1) (bases ++ base ∷ []) (ds ++ digits ∷ []) rest
      read_more = record {
        long = length-append ds (digits ∷ []) ∙ omega (arith, read.long);
        bases_are = ap₂ (λ (xs : List ℕ) (b : ℕ). xs ++ b ∷ []) read.bases_are base_is ∙ sym (take_more bs i 0 within);
        below = λ j r inside. elim (cases_lt j i) [
          | inl before ↦ omega (arith, read.below j r before, ap (λ (xs : List ℕ). get_or xs r 0) (earlier j before))
          | inr past ↦
              let same : j ≡ i = omega (arith, inside, past) in
              let at : get_or (ds ++ digits ∷ []) j [] ≡ digits = ap (λ k. get_or (ds ++ digits ∷ []) k []) same ∙ here in
              omega (arith, small r, ap (λ (xs : List ℕ). get_or xs r 0) (at ∙ digits_are), ap (λ k. get_or bs k 0) same)
        ];
        rows_are = λ j inside. elim (cases_lt j i) [
          | inl before ↦ ap length (earlier j before) ∙ read.rows_are j before
          | inr past ↦
              let same : j ≡ i = omega (arith, inside, past) in
              ap (λ k. length (get_or (ds ++ digits ∷ []) k [])) same ∙ ap length (here ∙ digits_are) ∙ length-numbers_in own ∙ own_rows 0 own_level.some
        ];
        bitmaps =
            read.bitmaps ∙ ap (λ rows. flat_map (piece bs ds) (range_with_len 0 i) ++ rows) split
            ∙ sym (append_assoc (flat_map (piece bs ds) (range_with_len 0 i)) (bits_each own) (bits_each rest))
            ∙ ap (λ rows. rows ++ bits_each rest)
            (ap₂ ◌++◌ (pieces_same (piece bs ds) (piece bs (ds ++ digits ∷ [])) i (λ j before. ap (digit_bitmaps (get_or bs j 0)) (sym (earlier j before))))
            (own_bits ∙ ap (digit_bitmaps (get_or bs i 0)) (sym here))
            ∙ sym (pieces_more (piece bs (ds ++ digits ∷ [])) i));
        even = λ k inside.
            let n = place_count (get_or bs i 0) in
            let there : n + k < length left = omega (arith, inside, ap length rest_is, length-drop n left) in
            ap (λ vectors. length (bits_at vectors k)) rest_is ∙ ap (λ (vector : BitList). length vector.bits) (get_or-drop n left k _) ∙ read.even (n + k) there;
      }

-- all components
pub read_all : (bs : List ℕ) (places : List BitList) (i : ℕ) (bases : List ℕ) (ds : List (List ℕ)) (left : List BitList) → IsReadUpTo bs places i bases ds left
    → length places ≡ length (places_under bs) → i ≡ length bs → (bases ≡ bs) × AreDigitsBelow bs (length (bits_at places 0)) ds × (component_bitmaps bs ds ≡ bits_each places)
read_all bs places i bases ds left read long all =
    let pieces = flat_map (piece bs ds) (range_with_len 0 i) in
    let whole : pieces ≡ component_bitmaps bs ds = ap (λ n. flat_map (piece bs ds) (range_with_len 0 n)) all in
    let counted : length pieces ≡ length (places_under bs) = before_long bs ds i ∙ ap (λ n. length (flat_map (digit_places bs) (range_with_len 0 n))) all in
    let none : length (bits_each left) ≡ 0 = omega (arith, ap length read.bitmaps, length-append pieces (bits_each left), length-bits_each places, counted, long) in (
      read.bases_are ∙ ap (λ n. take n bs) all ∙ take_all bs,
      record {
        count = read.long ∙ all;
        rows_are = λ j within. read.rows_are j (omega (arith, within, all));
        below = λ j r within. read.below j r (omega (arith, within, all));
      },
      sym (read.bitmaps ∙ ap (λ rows. pieces ++ rows) (nothing (bits_each left) none) ∙ append-nil pieces ∙ whole),
    )
  where
    nothing : {X : Type 0} (xs : List X) → length xs ≡ 0 → xs ≡ []
    nothing [] none = refl
    nothing (x ∷ xs) none = absurd (omega arith)

    take_all : (xs : List ℕ) → take (length xs) xs ≡ xs
    take_all [] = refl
    take_all (x ∷ xs) = ap (λ ys. x ∷ ys) (take_all xs)

-- ---- whole columns

module _ (old rest : List BitList) (first : BitList) (is : old ≡ first ∷ rest) where
  -- slices
  pub slices_made : (w : ℕ) (entries : List (Option ℕ)) → length rest ≡ w → first.bits ≡ map is_some entries
      → ((k : ℕ) → k < length rest → bits_at rest k ≡ map (λ e. has_place k (number_or_zero e)) entries) → bitmaps_by (slice_places w) entries ≡ bits_each old
  slices_made w entries long marks each =
      ap₂ (λ (bits : List Bool) rows. bits ∷ rows) (sym marks) (sym (bits_of_slices rest w entries long each)) ∙ sym (ap bits_each is)

  -- of bitmaps with a bit of a null there is no column
  pub none_with_null_bit : (tests : List (ℕ → Bool)) (size : ℕ) → All (λ test. test 0 ≡ false) tests → HasBitOfNull first.bits rest → HaveNoEntriesBelow tests size (bits_each old)
  none_with_null_bit tests size zeros bit = λ entries below same. no_null_bit tests entries first.bits rest (same ∙ ap bits_each is) zeros bit

  -- components
  pub components_made : (bs : List ℕ) (ds : List (List ℕ)) (entries : List (Option ℕ)) → Decomposes bs first.bits ds entries → component_bitmaps bs ds ≡ bits_each rest
      → bitmaps_by (places_under bs) entries ≡ bits_each old
  components_made bs ds entries decomposes same =
      ap₂ (λ (bits : List Bool) rows. bits ∷ rows) (sym decomposes.not_null_is) (component_bitmaps_of bs entries ds decomposes.digits_are ∙ same) ∙ sym (ap bits_each is)

  -- where no digits have the bitmaps, no entries have
  pub none_with_digits : (bs : List ℕ) (size rows : ℕ) → IsBaseList bs → length first.bits ≡ rows → ((ds : List (List ℕ)) → AreDigitsBelow bs rows ds → component_bitmaps bs ds ≢ bits_each rest)
      → HaveNoEntriesBelow (places_under bs) size (bits_each old)
  none_with_digits bs size rows valid even none = λ entries below same.
      let same_rest = same ∙ ap bits_each is in
      let ds = map (digits_in bs entries) (range_with_len 0 (length bs)) in
      let read : (i : ℕ) → i < length bs → get_or ds i [] ≡ digits_in bs entries i = λ i within. get_or-map-range_with_len (digits_in bs entries) 0 (length bs) i i [] within (omega arith) in
      let long : length entries ≡ rows = sym (length-map entries is_some) ∙ ap length (not_null_same (places_under bs) entries first.bits rest same_rest) ∙ even in
      let are : AreDigitsBelow bs rows ds = record {
        count = length-map-range_with_len (digits_in bs entries) 0 (length bs);
        rows_are = λ i within. ap length (read i within) ∙ length-map entries (λ e. digit_of bs (number_or_zero e) i) ∙ long;
        below = λ i r within. omega (arith, ap (λ (digits : List ℕ). get_or digits r 0) (read i within), small i (get_or bs i 0) (valid.each i within) entries r);
      } in
      none ds are (sym (component_bitmaps_of bs entries ds read) ∙ places_same (places_under bs) entries first.bits rest same_rest)
    where
      small : (i b : ℕ) → IsBase b → (es : List (Option ℕ)) (r : ℕ) → get_or (map (λ e. number_or_zero e / weight bs i % b) es) r 0 < b
      small i b is_base [] r = omega (arith, is_base)
      small i b is_base (e ∷ es) zero = mod_below (number_or_zero e / weight bs i) b (omega (arith, is_base))
      small i b is_base (e ∷ es) (suc r) = small i b is_base es r

-- what each value of an answer has
pub some_by : {X : Type 0} {P Q R : X → Type 0} (r : Option X) → IfSome r P → IfSome r Q → ((x : X) → P x → Q x → R x) → IfSome r R
some_by None p q each = tt
some_by (Some x) p q each = each x p q

pub none_by : {X : Type 0} {P Q : Type 0} (r : Option X) → IfNone r P → (P → Q) → IfNone r Q
none_by None p each = each p
none_by (Some x) p each = tt

-- bases have places
pub some_place : (bs : List ℕ) → IsBaseList bs → 0 < length (places_under bs)
some_place bs valid =
    let first = valid.each 0 valid.some in
    omega (arith, place_within bs 0 0 valid.some (omega (arith, count_few (get_or bs 0 0) first)))

-- the others of vectors of one length are as long as the first
pub split_even : (old rest : List BitList) (first : BitList) → old ≡ first ∷ rest → ((j : ℕ) → j < length old → length (bits_at old j) ≡ length (bits_at old 0))
    → (k : ℕ) → k < length rest → length (bits_at rest k) ≡ length first.bits
split_even old rest first is even k within =
    sym (ap (λ vectors. length (bits_at vectors (suc k))) is) ∙ even (suc k) (omega (arith, within, ap length is)) ∙ ap (λ vectors. length (bits_at vectors 0)) is
