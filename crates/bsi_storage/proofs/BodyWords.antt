-- The words of a segment, by its parts: each is a number of 64 bits, and so is how many there are.
use Rattle.std.proofs.Common.{◌≡◌, ℕ, zero, suc, ◌+◌, ◌-◌, ◌*◌, ◌<◌, ◌≤◌, ◌^◌, Bool, true, false, List, [], ◌∷◌, ◌++◌, All, length, map, get_or, take, drop, inl, inr, refl, sym, ap, subst, ◌∙◌, arith, length-append, length-take, get_or-take, get_or-drop}
use Rattle.std.specs.Prelude.{None, nat_eq, nat_le, if◌then◌else◌, ◌&&◌, not, IsTrue}
use Rattle.std.specs.Cmp.{first_so, second_so}
use Rattle.std.specs.Int.{w64, cast_unsigned, div_ceil}
use Rattle.std.specs.List.{flat_map, list_all, range_with_len}
use Rattle.std.proofs.Math.Seq.{get_or-append_right}
use Rattle.std.proofs.lemmas.Bool.{cases_lt}
use Rattle.std.proofs.lemmas.Bool.Decides.{nat_tests}
use Rattle.std.proofs.lemmas.Int.{ints}
use Rattle.std.proofs.lemmas.List.{get_or_append_left, get_or_past}
use Rattle.std.proofs.lemmas.List.Elements.{All-from_get_or, All-head, All-tail}
use Rattle.std.proofs.lemmas.List.FromFn.{get_or-map-range_with_len, get_or-range_with_len, length-map-range_with_len, length-range_with_len}
use Rattle.std.proofs.lemmas.Nat.{pow-add}
use Rattle.bsi_bits.specs.BitList.{word_count}
use Rattle.bsi_columns.specs.StoredBitmaps.{digit_places, places_under}
use Rattle.bsi_columns.proofs.ColumnPlaces.{length-slice_places}
use Rattle.bsi_columns.proofs.FromBitmaps.{tests_long}
use Rattle.bsi_digits.specs.Digits.{components, IsBaseList}
use Rattle.bsi_schema.specs.Columns.{column_at, no_column, Declared, IsDeclared, IsForm, NamedColumn}
use Rattle.bsi_schema.specs.Names.{begins_lower, is_name, is_name_byte, is_word}
use Rattle.bsi_schema.specs.declared.form.Form.{Form}
use Rattle.bsi_schema.specs.declared.form.Form.TheVariants.{Slices, Equality, Range}
use Rattle.bsi_rows.specs.Rows.{column_of, feeders_of, SourcedRow}
use Rattle.bsi_rows.specs.Refusals.{index_refusal}
use Rattle.bsi_rows.specs.Table.{Table}
use Rattle.bsi_table.proofs.Refusing.{limit_within}
use Rattle.bsi_table.specs.Bitmaps.{bitmap_count, bitmaps_of}
use Rattle.bsi_segments.specs.Bitmaps.{packed, value, word_of_bits}
use Rattle.bsi_segments.specs.Bytes.{packed_bytes, text_words, AreBytes}
use Rattle.bsi_segments.specs.Schemas.{column_words, encoded_schema, form_words, FitsWords}
use Rattle.bsi_segments.specs.Segments.{word_at}
use Rattle.bsi_segments.proofs.Coding.{all_fit}
use Rattle.bsi_storage.specs.Saved.{columns_words, feeder_words, rows_words, AreRows}
use Rattle.bsi_storage.proofs.ColumnWords.{column_entries, feeders_below, feeders_long}
use Rattle.bsi_storage.proofs.Cutting.{bitmaps_long, feeders_are_bytes}

-- ---- words

-- each is a number of 64 bits, and there are at most n
pub record Fit (n : ℕ) (ws : List ℕ) : Type 0 where
  pub each : (k : ℕ) → get_or ws k 0 < 2 ^ 64
  pub few : length ws ≤ n

pub none : Fit 0 []
none = record { each = λ k. omega arith; few = omega arith }

pub wider : (n m : ℕ) (ws : List ℕ) → n ≤ m → Fit n ws → Fit m ws
wider n m ws more fit = record { each = fit.each; few = omega (arith, more, fit.few) }

pub one_more : (n w : ℕ) (ws : List ℕ) → w < 2 ^ 64 → Fit n ws → Fit (1 + n) (w ∷ ws)
one_more n w ws small fit = record { each = λ k. at k; few = omega (arith, fit.few) }
  where
    at : (k : ℕ) → get_or (w ∷ ws) k 0 < 2 ^ 64
    at zero = small
    at (suc k) = fit.each k

pub both : (n m : ℕ) (xs ys : List ℕ) → Fit n xs → Fit m ys → Fit (n + m) (xs ++ ys)
both n m xs ys a b = record {
  each = λ k. elim (cases_lt k (length xs)) [
    | inl within ↦ omega (arith, get_or_append_left xs ys 0 k within, a.each k)
    | inr past ↦ omega (arith, get_or-append_right xs ys k 0 past, b.each (k - length xs))
  ];
  few = omega (arith, length-append xs ys, a.few, b.few);
}

pub each_of : {X : Type 0} (n : ℕ) (f : X → List ℕ) (xs : List X) → All (λ x. Fit n (f x)) xs → Fit (length xs * n) (flat_map f xs)
each_of n f [] all = record { each = λ k. omega arith; few = omega arith }
each_of n f (x ∷ xs) all =
    wider (n + length xs * n) (length (x ∷ xs) * n) (f x ++ flat_map f xs) (omega arith)
    (both n (length xs * n) (f x) (flat_map f xs) (All-head (λ y. Fit n (f y)) x xs all) (each_of n f xs (All-tail (λ y. Fit n (f y)) x xs all)))

counted : (f : ℕ → ℕ) (n : ℕ) → ((i : ℕ) → f i < 2 ^ 64) → Fit n (map f (range_with_len 0 n))
counted f n small = record {
  each = λ k. elim (cases_lt k n) [
    | inl within ↦ omega (arith, get_or-map-range_with_len f 0 n k k 0 within (omega arith), small k)
    | inr past ↦ omega (arith, get_or_past (map f (range_with_len 0 n)) k 0 (omega (arith, past, length-map-range_with_len f 0 n)))
  ];
  few = omega (arith, length-map-range_with_len f 0 n);
}

-- what holds of each of the first numbers
pub all_range : (P : ℕ → Type 0) (n : ℕ) → ((k : ℕ) → k < n → P k) → All P (range_with_len 0 n)
all_range P n holds = λ i d within.
    (let below : i < n = omega (arith, within, length-range_with_len 0 n) in
    let at : i ≡ get_or (range_with_len 0 n) i d = sym (get_or-range_with_len 0 n i d below ∙ omega arith) in
    subst P at (holds i below))

-- ---- bitmaps

bit_small : (b : Bool) → ◌≤◌ (if b then 1 else 0) 1
bit_small true = omega arith
bit_small false = omega arith

two_pow : (i : ℕ) → 2 ^ (suc i) ≡ 2 * 2 ^ i
two_pow i = let e : suc i ≡ 1 + i = omega arith in ap (λ k. 2 ^ k) e ∙ pow-add 2 1 i

value_below : (n : ℕ) (f : ℕ → Bool) → value n f < 2 ^ n
unfolding value
value_below zero f = omega arith
value_below (suc n) f = omega (arith, two_pow n, bit_small (f 0), value_below n (λ i. f (suc i)))

pub packed_fit : (bits : List Bool) → Fit (word_count (length bits)) (packed bits)
packed_fit bits = counted (word_of_bits bits) (word_count (length bits)) (λ w. value_below 64 (λ i. get_or bits (64 * w + i) false))

-- ---- bytes

word_small : (bytes : List ℕ) → AreBytes bytes → (k : ℕ) → word_at bytes k < 2 ^ 64
word_small bytes are k =
    let e0 = at 0 in
    let e1 = at 1 in
    let e2 = at 2 in
    let e3 = at 3 in
    let e4 = at 4 in
    let e5 = at 5 in
    let e6 = at 6 in
    let e7 = at 7 in
    omega (arith, e0, e1, e2, e3, e4, e5, e6, e7)
  where
    at : (i : ℕ) → get_or (take 8 (drop (8 * k) bytes)) i 0 < 256
    at i = elim (cases_lt i 8) [
      | inl within ↦ omega (arith, get_or-take 8 (drop (8 * k) bytes) i 0 within, get_or-drop (8 * k) bytes i 0, are.each (8 * k + i))
      | inr past ↦ omega (arith, get_or_past (take 8 (drop (8 * k) bytes)) i 0 (omega (arith, past, length-take 8 (drop (8 * k) bytes))))
    ]

pub bytes_fit : (bytes : List ℕ) → AreBytes bytes → Fit (div_ceil (length bytes) 8) (packed_bytes bytes)
bytes_fit bytes are = counted (word_at bytes) (div_ceil (length bytes) 8) (word_small bytes are)

pub text_fit : (text : List ℕ) → AreBytes text → length text ≤ 2 ^ 26 → Fit (2 ^ 26) (text_words text)
text_fit text are few =
    wider (1 + div_ceil (length text) 8) (2 ^ 26) (text_words text) (omega (arith, few))
    (one_more (div_ceil (length text) 8) (length text) (packed_bytes text) (omega (arith, few)) (bytes_fit text are))

-- ---- schemas

bases_fit : (bs : List ℕ) → IsBaseList bs → Fit 63 bs
bases_fit bs valid = record {
  each = λ k. elim (cases_lt k (length bs)) [
    | inl within ↦ omega (arith, (valid.each k within).1)
    | inr past ↦ omega (arith, get_or_past bs k 0 past)
  ];
  few = valid.few;
}

form_fit : (form : Form) → IsForm form → Fit 65 (form_words form)
form_fit (Slices w) valid = wider 2 65 (0 ∷ w ∷ []) (omega arith) (one_more 1 0 (w ∷ []) (omega arith) (one_more 0 w [] (omega (arith, valid.1)) none))
form_fit (Equality bs) valid = one_more 64 1 (length bs ∷ bs) (omega arith) (one_more 63 (length bs) bs (omega (arith, valid.few)) (bases_fit bs valid))
form_fit (Range bs) valid = one_more 64 2 (length bs ∷ bs) (omega arith) (one_more 63 (length bs) bs (omega (arith, valid.few)) (bases_fit bs valid))

name_short : (text : List ℕ) → IsTrue (is_name text) → length text ≤ 32
name_short text name =
    let start = begins_lower text && nat_le (length text) 32 in
    let spelled = first_so (start && list_all is_name_byte text) (not (is_word text)) name in
    let long : nat_le (length text) 32 ≡ true = second_so (begins_lower text) (nat_le (length text) 32) (first_so start (list_all is_name_byte text) spelled) in
    grind (arith, nat_tests, long)

column_fit : (column : NamedColumn) → FitsWords column → IsTrue (is_name column.name) → IsForm column.form → Fit (2 ^ 27) (column_words column)
column_fit column fits name valid =
    let offset_small : cast_unsigned w64 column.offset < 2 ^ 64 = let signed = fits.offset in search (arith, ints) in
    wider (2 ^ 26 + (65 + 1)) (2 ^ 27) (column_words column) (omega arith)
    (both (2 ^ 26) (65 + 1) (text_words column.name) (form_words column.form ++ cast_unsigned w64 column.offset ∷ [])
    (text_fit column.name fits.name (omega (arith, name_short column.name name)))
    (both 65 1 (form_words column.form) (cast_unsigned w64 column.offset ∷ []) (form_fit column.form valid) (one_more 0 (cast_unsigned w64 column.offset) [] offset_small none)))

pub few_columns : (schema : Declared) → IsDeclared schema → length schema.columns ≤ 64
few_columns schema declared = elim (cases_lt 0 (length schema.columns)) [
  | inl some ↦
      let last = length schema.columns - 1 in
      let may = declared.each last (omega (arith, some)) in
      omega (arith, some, may.few, length-take last schema.columns)
  | inr none ↦ omega (arith, none)
]

pub schema_fit : (schema : Declared) → IsDeclared schema → Fit (2 ^ 34) (encoded_schema schema)
schema_fit schema declared =
    wider (1 + (1 + length schema.columns * 2 ^ 27)) (2 ^ 34) (encoded_schema schema) (omega (arith, few_columns schema declared))
    (one_more (1 + length schema.columns * 2 ^ 27) (length schema.columns) ((if schema.signed then 1 else 0) ∷ flat_map column_words schema.columns) (omega (arith, few_columns schema declared))
    (one_more (length schema.columns * 2 ^ 27) (if schema.signed then 1 else 0) (flat_map column_words schema.columns) (omega (arith, bit_small schema.signed))
    (each_of (2 ^ 27) column_words schema.columns
    (All-from_get_or (λ column. Fit (2 ^ 27) (column_words column)) schema.columns no_column (λ c within.
    let may = declared.each c within in
    column_fit (column_at schema.columns c) (all_fit schema declared c within) may.name may.valid.form)))))

-- ---- rows

few_each : {X Y : Type 0} (n : ℕ) (f : X → List Y) (xs : List X) → All (λ x. length (f x) ≤ n) xs → length (flat_map f xs) ≤ length xs * n
few_each n f [] all = omega arith
few_each n f (x ∷ xs) all =
    omega (arith, length-append (f x) (flat_map f xs), All-head (λ y. length (f y) ≤ n) x xs all, few_each n f xs (All-tail (λ y. length (f y) ≤ n) x xs all))

few_places : (bs : List ℕ) → IsBaseList bs → length (places_under bs) ≤ 2016
few_places bs valid =
    omega (
      arith,
      valid.few,
      length-range_with_len 0 (length bs),
      few_each 32 (digit_places bs) (components bs)
          (all_range (λ i. length (digit_places bs i) ≤ 32) (length bs) (λ k within. let e : length (digit_places bs k) ≤ 32 = omega (arith, tests_long bs k) in e)),
    )

pub few_bitmaps : (form : Form) → IsForm form → bitmap_count form ≤ 2048
few_bitmaps (Slices w) valid = omega (arith, valid.1, length-slice_places w)
few_bitmaps (Equality bs) valid = omega (arith, few_places bs valid)
few_bitmaps (Range bs) valid = omega (arith, few_places bs valid)

module _ (schema : Declared) (rows : List SourcedRow) (feeders : ℕ) (declared : IsDeclared schema) (are : AreRows schema feeders rows) (few : length rows ≤ 2 ^ 32) where
  bitmaps_fit : (c : ℕ) → c < length schema.columns → Fit (2 ^ 38) (flat_map packed (bitmaps_of schema rows c))
  bitmaps_fit c within =
      let column = column_at schema.columns c in
      let n = length rows in
      let long = bitmaps_long column (column_of rows c) n (column_entries schema rows feeders n c are refl within).many in
      let bits = bitmaps_of schema rows c in
      wider (length bits * 2 ^ 27) (2 ^ 38) (flat_map packed bits) (omega (arith, long.many, few_bitmaps column.form (declared.each c within).valid.form))
      (each_of (2 ^ 27) packed bits (All-from_get_or (λ b. Fit (2 ^ 27) (packed b)) bits [] (λ k inside.
      let this : length (get_or bits k []) ≡ n = long.each k (omega (arith, inside, long.many)) in
      wider (word_count (length (get_or bits k []))) (2 ^ 27) (packed (get_or bits k [])) (omega (arith, this, few)) (packed_fit (get_or bits k [])))))

  pub columns_fit : Fit (2 ^ 44) (columns_words schema rows 0 (length schema.columns))
  columns_fit =
      let f : ℕ → List ℕ = λ k. flat_map packed (bitmaps_of schema rows k) in
      let range = range_with_len 0 (length schema.columns) in
      wider (length range * 2 ^ 38) (2 ^ 44) (flat_map f range) (omega (arith, length-range_with_len 0 (length schema.columns), few_columns schema declared))
      (each_of (2 ^ 38) f range (all_range (λ k. Fit (2 ^ 38) (f k)) (length schema.columns) bitmaps_fit))

  pub feeders_fit : feeders ≤ 64 → Fit (2 ^ 30) (feeder_words feeders (feeders_of rows))
  feeders_fit small = by (nat_eq feeders 1)
    where
      by : (b : Bool) → Fit (2 ^ 30) (if b then [] else packed_bytes (feeders_of rows))
      by true = wider 0 (2 ^ 30) [] (omega arith) none
      by false =
          wider (div_ceil (length (feeders_of rows)) 8) (2 ^ 30) (packed_bytes (feeders_of rows)) (omega (arith, few, feeders_long rows))
          (bytes_fit (feeders_of rows) (feeders_are_bytes feeders (feeders_of rows) small (feeders_below feeders rows are.from)))

-- the words of rows are words
module _ (t : Table) (declared : IsDeclared t.schema) (accepted : index_refusal t.schema t.limit ≡ None) (within : length t.rows ≤ t.limit) (few_feeders : t.feeders ≤ 64) (are : AreRows t.schema t.feeders t.rows) where
  pub few_rows : length t.rows ≤ 2 ^ 32
  few_rows = omega (arith, (limit_within t.schema t.limit accepted).1, within)

  pub rows_fit : Fit (2 ^ 44 + 2 ^ 30) (rows_words t.schema t.feeders t.rows)
  rows_fit =
      both (2 ^ 44) (2 ^ 30) (columns_words t.schema t.rows 0 (length t.schema.columns)) (feeder_words t.feeders (feeders_of t.rows))
      (columns_fit t.schema t.rows t.feeders declared are few_rows) (feeders_fit t.schema t.rows t.feeders declared are few_rows few_feeders)

  -- with three sizes
  pub sizes_fit : (n : ℕ) (words : List ℕ) → Fit n words → Fit (3 + n) (length t.rows ∷ t.feeders ∷ t.limit ∷ words)
  sizes_fit n words fit =
      let limit = (limit_within t.schema t.limit accepted).1 in
      wider (1 + (1 + (1 + n))) (3 + n) (length t.rows ∷ t.feeders ∷ t.limit ∷ words) (omega arith)
      (one_more (1 + (1 + n)) (length t.rows) (t.feeders ∷ t.limit ∷ words) (omega (arith, few_rows))
      (one_more (1 + n) t.feeders (t.limit ∷ words) (omega (arith, few_feeders)) (one_more n t.limit words (omega (arith, limit)) fit)))
