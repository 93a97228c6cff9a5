-- The words of columns, one after another.
use Rattle.std.proofs.Common.{◌≡◌, ℕ, zero, suc, ◌+◌, ◌-◌, ◌<◌, ◌≤◌, All, List, [], ◌∷◌, ◌++◌, length, map, get_or, inl, inr, refl, sym, ap, ap₂, subst, ◌∙◌, arith, append-nil, ext_get_or, length-append}
use Rattle.std.specs.List.{flat_map, range_with_len}
use Rattle.std.proofs.lemmas.Bool.{cases_eq}
use Rattle.std.proofs.lemmas.Grind.{flat_map-append}
use Rattle.std.proofs.lemmas.List.{get_or_append_left, length-map}
use Rattle.std.proofs.lemmas.List.FromFn.{get_or-range_with_len, length-range_with_len, map-range_with_len_more}
use Rattle.std.proofs.lemmas.List.Elements.{All-map}
use Rattle.std.proofs.Math.Seq.{get_or-append_seam}
use Rattle.bsi_schema.specs.Columns.{column_at, entry_at, Declared}
use Rattle.bsi_shift.specs.Shifted.{shifted_entries, OffsetColumn}
use Rattle.bsi_rows.specs.Rows.{column_of, feeders_of, SourcedRow}
use Rattle.bsi_rows.specs.Table.{AreFrom}
use Rattle.bsi_table.specs.Bitmaps.{bitmaps_of, entries_bitmaps}
use Rattle.bsi_table.specs.Encoded.{sourced_rows, encoded_at, no_entries, AreEncoded, Encodes}
use Rattle.bsi_table.proofs.RowBitmaps.{column_accepted, fed-bitmaps, fed-feeders}
use Rattle.bsi_segments.specs.Bitmaps.{packed}
use Rattle.bsi_segments.proofs.Chunks.{same_rest}
use Rattle.bsi_storage.specs.Saved.{columns_words, AreRows}
use Rattle.bsi_storage.specs.Decoding.{encoded_words, HasEntries}
use Rattle.bsi_storage.proofs.Cutting.{words_long}

map_id : (xs : List ℕ) → map (λ (i : ℕ). i) xs ≡ xs
map_id [] = refl
map_id (x ∷ xs) = ap (λ ys. x ∷ ys) (map_id xs)

range_more : (a n j : ℕ) → a + n ≡ j → range_with_len a (n + 1) ≡ range_with_len a n ++ j ∷ []
range_more a n j is =
    sym (map_id (range_with_len a (n + 1))) ∙ map-range_with_len_more (λ (i : ℕ). i) a n j is ∙ ap (λ xs. xs ++ j ∷ []) (map_id (range_with_len a n))

pub range_next : (a n : ℕ) → range_with_len a (suc n) ≡ a ∷ range_with_len (suc a) n
range_next a n =
    ext_get_or 0 (range_with_len a (suc n)) (a ∷ range_with_len (suc a) n)
    (let e : length (range_with_len a (suc n)) ≡ suc (length (range_with_len (suc a) n)) = omega (arith, length-range_with_len a (suc n), length-range_with_len (suc a) n) in e)
    (λ i within. get_or-range_with_len a (suc n) i 0 (omega (arith, within, length-range_with_len a (suc n))) ∙ sym (at i (omega (arith, within, length-range_with_len a (suc n)))))
  where
    at : (i : ℕ) → i < suc n → get_or (a ∷ range_with_len (suc a) n) i 0 ≡ a + i
    at zero within = omega arith
    at (suc i) within = get_or-range_with_len (suc a) n i 0 (omega (arith, within)) ∙ omega arith

-- what one more number adds
pub words_after : (f : ℕ → List ℕ) (a n j : ℕ) → a + n ≡ j → flat_map f (range_with_len a (n + 1)) ≡ flat_map f (range_with_len a n) ++ f j
words_after f a n j is =
    ap (flat_map f) (range_more a n j is) ∙ flat_map-append f (range_with_len a n) (j ∷ []) ∙ ap (λ ws. flat_map f (range_with_len a n) ++ ws) (append-nil (f j))

pub same_upto : (f g : ℕ → List ℕ) (n : ℕ) → ((k : ℕ) → k < n → f k ≡ g k) → flat_map f (range_with_len 0 n) ≡ flat_map g (range_with_len 0 n)
same_upto f g zero each = refl
same_upto f g (suc n) each =
    let one : suc n ≡ n + 1 = omega arith in
    ap (λ m. flat_map f (range_with_len 0 m)) one
    ∙ words_after f 0 n n (omega arith)
    ∙ ap₂ (λ (us : List ℕ) vs. us ++ vs) (same_upto f g n (λ k within. each k (omega (arith, within)))) (each n (omega arith))
    ∙ sym (words_after g 0 n n (omega arith))
    ∙ ap (λ m. flat_map g (range_with_len 0 m)) (sym one)

-- ---- encoded columns

valid_before : (xs : List OffsetColumn) (column : OffsetColumn) (k : ℕ) → k < length xs → encoded_at (xs ++ column ∷ []) k ≡ encoded_at xs k
valid_before xs column k within = get_or_append_left xs (column ∷ []) no_entries k within

valid_last : (xs : List OffsetColumn) (column : OffsetColumn) → encoded_at (xs ++ column ∷ []) (length xs) ≡ column
valid_last xs column = get_or-append_seam xs column [] no_entries

module _ (schema : Declared) (xs new : List OffsetColumn) (column : OffsetColumn) (c : ℕ) (is : new ≡ xs ++ column ∷ []) (many : length xs ≡ c) where
  -- one more column file its entries
  pub column_of_more : (rows : ℕ) → ((k : ℕ) → k < c → Encodes (column_at schema.columns k) (encoded_at xs k) rows) → Encodes (column_at schema.columns c) column rows
      → (k : ℕ) → k < c + 1 → Encodes (column_at schema.columns k) (encoded_at new k) rows
  column_of_more rows each last k within = elim (cases_eq k c) [
    | inl same ↦
        let here : encoded_at new c ≡ column = ap (λ ys. encoded_at ys c) is ∙ ap (λ i. encoded_at (xs ++ column ∷ []) i) (sym many) ∙ valid_last xs column in
        subst (λ i. Encodes (column_at schema.columns i) (encoded_at new i) rows) (sym same) (subst (λ o. Encodes (column_at schema.columns c) o rows) (sym here) last)
    | inr apart ↦
        let early : k < c = omega (arith, within, apart) in
        subst (λ o. Encodes (column_at schema.columns k) o rows) (sym (ap (λ ys. encoded_at ys k) is ∙ valid_before xs column k (omega (arith, early, many)))) (each k early)
  ]

  -- and its words stand last
  pub valid_more : encoded_words schema new (c + 1) ≡ encoded_words schema xs c ++ flat_map packed (entries_bitmaps (column_at schema.columns c) (shifted_entries column))
  valid_more =
      let f : List OffsetColumn → ℕ → List ℕ = λ ys k. flat_map packed (entries_bitmaps (column_at schema.columns k) (shifted_entries (encoded_at ys k))) in
      let here : encoded_at new c ≡ column = ap (λ ys. encoded_at ys c) is ∙ ap (λ i. encoded_at (xs ++ column ∷ []) i) (sym many) ∙ valid_last xs column in
      words_after (f new) 0 c c (omega arith)
      ∙ ap₂ (λ (us : List ℕ) vs. us ++ vs)
      (same_upto (f new) (f xs) c (λ k within. ap (λ o. flat_map packed (entries_bitmaps (column_at schema.columns k) (shifted_entries o)))
      (ap (λ ys. encoded_at ys k) is ∙ valid_before xs column k (omega (arith, within, many)))))
      (ap (λ o. flat_map packed (entries_bitmaps (column_at schema.columns c) (shifted_entries o))) here)

-- ---- columns of rows

-- the words of the next column stand first
pub next_words : (schema : Declared) (rows : List SourcedRow) (c count : ℕ) → c < count
    → columns_words schema rows c (count - c) ≡ flat_map packed (bitmaps_of schema rows c) ++ columns_words schema rows (c + 1) (count - (c + 1))
next_words schema rows c count within =
    let more : count - c ≡ suc (count - (c + 1)) = omega (arith, within) in
    let up : suc c ≡ c + 1 = omega arith in
    ap (columns_words schema rows c) more ∙ ap (flat_map (λ k. flat_map packed (bitmaps_of schema rows k))) (range_next c (count - (c + 1))) ∙ ap (λ i. flat_map packed (bitmaps_of schema rows c) ++ columns_words schema rows i (count - (c + 1))) up

-- and are those of entries that the column takes
pub column_entries : (schema : Declared) (rows : List SourcedRow) (feeders n c : ℕ) → AreRows schema feeders rows → length rows ≡ n → c < length schema.columns
    → HasEntries (column_at schema.columns c) n (column_of rows c)
column_entries schema rows feeders n c are many within = record {
  many = length-map rows (λ (row : SourcedRow). entry_at row.1 c) ∙ many;
  accepted = column_accepted schema.columns rows c within are.fits;
}

-- ---- encoded columns of rows

module _ (schema : Declared) (encoded : List OffsetColumn) (rows : List SourcedRow) (feeders n : ℕ) (are : AreEncoded schema.columns encoded n) (of : AreRows schema feeders rows)
    (many : length rows ≡ n) where
  long_upto : (c : ℕ) → c ≤ length schema.columns → length (encoded_words schema encoded c) ≡ length (columns_words schema rows 0 c)
  long_upto zero within = refl
  long_upto (suc c) within =
      let f : ℕ → List ℕ = λ k. flat_map packed (entries_bitmaps (column_at schema.columns k) (shifted_entries (encoded_at encoded k))) in
      let g : ℕ → List ℕ = λ k. flat_map packed (bitmaps_of schema rows k) in
      let one : suc c ≡ c + 1 = omega arith in
      let inside : c < length schema.columns = omega (arith, within) in
      let here : length (f c) ≡ length (g c) =
      words_long (column_at schema.columns c) (shifted_entries (encoded_at encoded c)) n (are.each c inside).rows
      ∙ sym (words_long (column_at schema.columns c) (column_of rows c) n (column_entries schema rows feeders n c of many inside).many) in
      omega (
        arith,
        here,
        long_upto c (omega (arith, within)),
        ap (λ (ws : List ℕ). length ws) (ap (λ m. flat_map f (range_with_len 0 m)) one ∙ words_after f 0 c c (omega arith)),
        length-append (flat_map f (range_with_len 0 c)) (f c),
        ap (λ (ws : List ℕ). length ws) (ap (λ m. flat_map g (range_with_len 0 m)) one ∙ words_after g 0 c c (omega arith)),
        length-append (flat_map g (range_with_len 0 c)) (g c),
      )

  -- behind the words of the columns stands the same
  pub rest_is : (rest more : List ℕ) → encoded_words schema encoded (length schema.columns) ++ rest ≡ columns_words schema rows 0 (length schema.columns) ++ more → rest ≡ more
  rest_is rest more same =
      same_rest (encoded_words schema encoded (length schema.columns)) (columns_words schema rows 0 (length schema.columns)) rest more (long_upto (length schema.columns) (omega arith)) same

module _ (schema : Declared) (encoded : List OffsetColumn) (row_feeders : List ℕ) (are : AreEncoded schema.columns encoded (length row_feeders)) where
  -- the words of encoded columns are those of their rows
  pub fed_words : encoded_words schema encoded (length schema.columns) ≡ columns_words schema (sourced_rows row_feeders encoded) 0 (length schema.columns)
  fed_words =
      same_upto (λ k. flat_map packed (entries_bitmaps (column_at schema.columns k) (shifted_entries (encoded_at encoded k))))
      (λ k. flat_map packed (bitmaps_of schema (sourced_rows row_feeders encoded) k)) (length schema.columns)
      (λ k within. ap (flat_map packed) (sym (fed-bitmaps schema.columns encoded row_feeders are k within)))

  pub fed_long : length (sourced_rows row_feeders encoded) ≡ length row_feeders
  fed_long = sym (length-map (sourced_rows row_feeders encoded) (λ (row : SourcedRow). row.0)) ∙ ap length (fed-feeders schema.columns encoded row_feeders are)

-- the feeders of rows
pub feeders_below : (feeders : ℕ) (rows : List SourcedRow) → AreFrom feeders rows → All (λ feeder. feeder < feeders) (feeders_of rows)
feeders_below feeders rows from = All-map (λ feeder. feeder < feeders) (λ (row : SourcedRow). row.0) rows from

pub feeders_long : (rows : List SourcedRow) → length (feeders_of rows) ≡ length rows
feeders_long rows = length-map rows (λ (row : SourcedRow). row.0)
