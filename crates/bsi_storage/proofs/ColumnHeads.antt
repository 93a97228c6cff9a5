-- What the head says of columns, from the words of their bitmaps.
use Rattle.std.proofs.Common.{◌≡◌, ℕ, suc, ◌+◌, ◌-◌, ◌*◌, ◌<◌, ◌≤◌, Bool, List, [], ◌∷◌, ◌++◌, length, map, get_or, take, drop, refl, sym, ap, ◌∙◌, arith, append_assoc, drop-cons}
use Rattle.std.specs.List.{flat_map}
use Rattle.std.proofs.lemmas.List.{drop_at, length-map, map-append, take_all, take_at, take_more}
use Rattle.bsi_bits.specs.BitList.{word_count}
use Rattle.bsi_schema.specs.Columns.{column_at, entry_at, Declared}
use Rattle.bsi_rows.specs.Rows.{column_of, SourcedRow}
use Rattle.bsi_table.specs.Bitmaps.{bitmap_count, bitmaps_of}
use Rattle.bsi_segments.specs.Bitmaps.{packed, AreBitmaps}
use Rattle.bsi_segments.specs.Lanes.{lanes_of}
use Rattle.bsi_segments.proofs.Chunks.{length-packed, same_rest}
use Rattle.bsi_storage.specs.Heads.{column_head, column_heads}
use Rattle.bsi_storage.specs.Saved.{columns_words}
use Rattle.bsi_storage.proofs.ColumnWords.{next_words, words_after}
use Rattle.bsi_storage.proofs.Cutting.{bitmaps_long, words_long}

-- the checksums of bitmaps
abbrev pub checksums : List (List Bool) → List ℕ
checksums bits = map (λ b. lanes_of (packed b)) bits

-- one more checksum, and the words of the bitmaps that are left
pub record IsNextBitmap (bits : List (List Bool)) (k : ℕ) (first behind : List ℕ) : Type 0 where
  pub sums : checksums (take (k + 1) bits) ≡ checksums (take k bits) ++ lanes_of first ∷ []
  pub left : behind ≡ flat_map packed (drop (k + 1) bits)

pub next_bitmap : (count n long : ℕ) (bits : List (List Bool)) (k : ℕ) (rest : List ℕ) → AreBitmaps count n bits → word_count n ≡ long → k < count → rest ≡ flat_map packed (drop k bits)
    → IsNextBitmap bits k (take long rest) (drop long rest)
next_bitmap count n long bits k rest all words within left =
    let inside : k < length bits = omega (arith, within, all.many) in
    let b = get_or bits k [] in
    let up : suc k ≡ k + 1 = omega arith in
    let opened : rest ≡ packed b ++ flat_map packed (drop (suc k) bits) = left ∙ ap (flat_map packed) (drop-cons bits k [] inside) in
    let many : length (packed b) ≡ long = length-packed b ∙ ap word_count (all.each k within) ∙ words in
    let first : take long rest ≡ packed b = ap (take long) opened ∙ take_at (packed b) (flat_map packed (drop (suc k) bits)) long many in
    record {
      sums =
          ap checksums (take_more bits k [] inside) ∙ map-append (λ (x : List Bool). lanes_of (packed x)) (take k bits) (b ∷ [])
          ∙ ap (λ ws. checksums (take k bits) ++ lanes_of ws ∷ []) (sym first);
      left =
          ap (drop long) opened ∙ drop_at (packed b) (flat_map packed (drop (suc k) bits)) long many
          ∙ ap (λ j. flat_map packed (drop j bits)) up;
    }

pub all_checksums : (count n : ℕ) (bits : List (List Bool)) (k : ℕ) → AreBitmaps count n bits → count ≤ k → checksums (take k bits) ≡ checksums bits
all_checksums count n bits k all past = ap checksums (take_all k bits (omega (arith, past, all.many)))

-- ---- columns

-- one more column
pub heads_more : (schema : Declared) (rows : List SourcedRow) (c : ℕ)
    → column_heads schema rows (c + 1) ≡ column_heads schema rows c ++ column_head (column_at schema.columns c) (column_of rows c)
heads_more schema rows c = words_after (λ k. column_head (column_at schema.columns k) (column_of rows k)) 0 c c (omega arith)

-- the words of the next column stand first
pub column_first : (schema : Declared) (rows : List SourcedRow) (c : ℕ) (rest feeders : List ℕ) → c < length schema.columns
    → rest ≡ columns_words schema rows c (length schema.columns - c) ++ feeders
    → rest ≡ flat_map packed (bitmaps_of schema rows c) ++ (columns_words schema rows (c + 1) (length schema.columns - (c + 1)) ++ feeders)
column_first schema rows c rest feeders within is =
    is ∙ ap (λ ws. ws ++ feeders) (next_words schema rows c (length schema.columns) within)
    ∙ append_assoc (flat_map packed (bitmaps_of schema rows c)) (columns_words schema rows (c + 1) (length schema.columns - (c + 1))) feeders

-- and behind them those of the others
pub column_behind : (schema : Declared) (rows : List SourcedRow) (c : ℕ) (rest behind feeders : List ℕ) → c < length schema.columns
    → rest ≡ columns_words schema rows c (length schema.columns - c) ++ feeders → rest ≡ flat_map packed (bitmaps_of schema rows c) ++ behind
    → behind ≡ columns_words schema rows (c + 1) (length schema.columns - (c + 1)) ++ feeders
column_behind schema rows c rest behind feeders within is split =
    same_rest (flat_map packed (bitmaps_of schema rows c)) (flat_map packed (bitmaps_of schema rows c)) behind (columns_words schema rows (c + 1) (length schema.columns - (c + 1)) ++ feeders)
    refl (sym split ∙ column_first schema rows c rest feeders within is)

-- behind the last one stand the feeders
pub feeders_left : (schema : Declared) (rows : List SourcedRow) (c : ℕ) (rest feeders : List ℕ) → length schema.columns ≤ c
    → rest ≡ columns_words schema rows c (length schema.columns - c) ++ feeders → rest ≡ feeders
feeders_left schema rows c rest feeders past is =
    let none : length schema.columns - c ≡ 0 = omega (arith, past) in
    is ∙ ap (λ n. columns_words schema rows c n ++ feeders) none

-- how many words a column's bitmaps have
pub column_long : (schema : Declared) (rows : List SourcedRow) (c : ℕ)
    → length (flat_map packed (bitmaps_of schema rows c)) ≡ bitmap_count (column_at schema.columns c).form * word_count (length rows)
column_long schema rows c = words_long (column_at schema.columns c) (column_of rows c) (length rows) (length-map rows (λ (row : SourcedRow). entry_at row.1 c))

pub column_bitmaps_long : (schema : Declared) (rows : List SourcedRow) (c : ℕ) → AreBitmaps (bitmap_count (column_at schema.columns c).form) (length rows) (bitmaps_of schema rows c)
column_bitmaps_long schema rows c = bitmaps_long (column_at schema.columns c) (column_of rows c) (length rows) (length-map rows (λ (row : SourcedRow). entry_at row.1 c))
