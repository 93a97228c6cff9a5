-- Words that are cut into those of bitmaps, of columns and of feeders.
use Rattle.std.proofs.Common.{◌≡◌, ℕ, zero, suc, ◌*◌, ◌<◌, ◌≤◌, Bool, false, List, [], ◌∷◌, ◌++◌, All, Option, length, map, get_or, take, drop, refl, sym, ap, ap₂, ◌∙◌, arith, length-append, ext_get_or}
use Rattle.std.specs.Prelude.{is_some, nat_eq, if◌then◌else◌, IfNone, IfOk, Result, Ok, Err, Some, None}
use Rattle.std.specs.Int.{div_ceil}
use Rattle.std.specs.List.{flat_map}
use Rattle.std.proofs.lemmas.List.{take_at, drop_at, length-map}
use Rattle.std.proofs.lemmas.List.Elements.{All-head, All-tail}
use Rattle.bsi_bits.specs.BitList.{word_count, BitList}
use Rattle.bsi_bits.specs.BitLists.{bits_at}
use Rattle.bsi_bits.specs.Packed.{bit_of}
use Rattle.bsi_digits.specs.Comparisons.{number_or_zero}
use Rattle.bsi_columns.specs.StoredBitmaps.{bits_each, form_places}
use Rattle.bsi_columns.proofs.FromBitmaps.{read_bits}
use Rattle.bsi_origins.specs.Origins.{HasOtherFeeder}
use Rattle.bsi_schema.specs.Columns.{Entries, NamedColumn}
use Rattle.bsi_table.specs.Bitmaps.{bitmap_count, entries_bitmaps, stored_entry, HaveNoEntries}
use Rattle.bsi_table.specs.Encoded.{encoded_form}
use Rattle.bsi_segments.specs.Bitmaps.{packed, AreBitmaps}
use Rattle.bsi_segments.specs.Bytes.{packed_bytes, AreBytes}
use Rattle.bsi_segments.proofs.Chunks.{length-all, length-packed, same_rest}
use Rattle.bsi_segments.proofs.Eights.{length-words_of}
use Rattle.bsi_segments.proofs.Packing.{packed_bit}
use Rattle.bsi_segments.proofs.Padding.{same_bytes}
use Rattle.bsi_storage.specs.Saved.{feeder_words}
use Rattle.bsi_storage.specs.Decoding.{HasEntries}

-- ---- lists

-- what begins in two ways with parts of one length begins with one part
pub same_parts : {X : Type 0} (xs ys us vs : List X) → length xs ≡ length ys → xs ++ us ≡ ys ++ vs → (xs ≡ ys) × (us ≡ vs)
same_parts xs ys us vs long same = (
  sym (take_at xs us (length xs) refl) ∙ ap (take (length xs)) same ∙ take_at ys vs (length xs) (sym long),
  sym (drop_at xs us (length xs) refl) ∙ ap (drop (length xs)) same ∙ drop_at ys vs (length xs) (sym long),
)

-- ---- bitmaps

-- bits of one length that have the same words are the same
same_packed : (a b : List Bool) → length a ≡ length b → packed a ≡ packed b → a ≡ b
same_packed a b long same =
    ext_get_or false a b long (λ i within. sym (packed_bit a i) ∙ ap (λ ws. bit_of ws i) same ∙ packed_bit b i)

long_rest : (count n : ℕ) (a : List Bool) (us : List (List Bool)) → AreBitmaps (suc count) n (a ∷ us) → AreBitmaps count n us
long_rest count n a us long = record { many = omega (arith, long.many); each = λ k within. long.each (suc k) (omega (arith, within)) }

-- and bitmaps
pub same_bitmaps : (count n : ℕ) (us bs : List (List Bool)) → AreBitmaps count n us → AreBitmaps count n bs → flat_map packed us ≡ flat_map packed bs → us ≡ bs
same_bitmaps zero n [] [] a b same = refl
same_bitmaps zero n [] (y ∷ bs) a b same = absurd (omega (arith, b.many))
same_bitmaps zero n (x ∷ us) bs a b same = absurd (omega (arith, a.many))
same_bitmaps (suc count) n [] bs a b same = absurd (omega (arith, a.many))
same_bitmaps (suc count) n (x ∷ us) [] a b same = absurd (omega (arith, b.many))
same_bitmaps (suc count) n (x ∷ us) (y ∷ bs) a b same =
    let x_long : length x ≡ n = a.each 0 (omega arith) in
    let y_long : length y ≡ n = b.each 0 (omega arith) in
    let long : length (packed x) ≡ length (packed y) = length-packed x ∙ (ap word_count (x_long ∙ sym y_long) ∙ sym (length-packed y)) in
    let parts = same_parts (packed x) (packed y) (flat_map packed us) (flat_map packed bs) long same in
    ap₂ (λ (v : List Bool) vs. v ∷ vs) (same_packed x y (x_long ∙ sym y_long) parts.0)
    (same_bitmaps count n us bs (long_rest count n x us a) (long_rest count n y bs b) parts.1)

-- ---- a column's bitmaps

tests_long : (tests : List (ℕ → Bool)) (entries : List (Option ℕ)) (k : ℕ) → k < length tests
    → length (get_or (map (λ (test : ℕ → Bool). map (λ e. test (number_or_zero e)) entries) tests) k []) ≡ length entries
tests_long [] entries k within = absurd (omega (arith, within))
tests_long (test ∷ tests) entries zero within = length-map entries (λ e. test (number_or_zero e))
tests_long (test ∷ tests) entries (suc k) within = tests_long tests entries k (omega (arith, within))

module _ (column : NamedColumn) (entries : Entries) (n : ℕ) (many : length entries ≡ n) where
  stored : List (Option ℕ)
  stored = map (stored_entry column.offset) entries

  stored_long : length stored ≡ n
  unfolding stored
  stored_long = length-map entries (stored_entry column.offset) ∙ many

  -- there are us many us the form has, each with a bit for each row
  pub bitmaps_long : AreBitmaps (bitmap_count column.form) n (entries_bitmaps column entries)
  unfolding stored
  bitmaps_long =
      let tests = form_places (encoded_form column.form) in
      record {
        many = omega (arith, length-map tests (λ (test : ℕ → Bool). map (λ e. test (number_or_zero e)) stored));
        each = each;
      }
    where
      each : (k : ℕ) → k < bitmap_count column.form → length (get_or (entries_bitmaps column entries) k []) ≡ n
      each zero within = length-map stored is_some ∙ stored_long
      each (suc k) within = tests_long (form_places (encoded_form column.form)) stored k (omega (arith, within)) ∙ stored_long

  -- so many words
  pub words_long : length (flat_map packed (entries_bitmaps column entries)) ≡ bitmap_count column.form * word_count n
  words_long =
      length-all n (entries_bitmaps column entries) (λ k within. bitmaps_long.each k (omega (arith, within, bitmaps_long.many)))
      ∙ ap (λ m. m * word_count n) bitmaps_long.many

-- words that begin with those of a column's bitmaps are long enough, and begin with just these
module _ (column : NamedColumn) (entries : Entries) (n : ℕ) (words rest : List ℕ) (has : HasEntries column n entries)
    (is : words ≡ flat_map packed (entries_bitmaps column entries) ++ rest) where
  pub enough : bitmap_count column.form * word_count n ≤ length words
  enough = omega (arith, words_long column entries n has.many, ap (λ (ws : List ℕ). length ws) is, length-append (flat_map packed (entries_bitmaps column entries)) rest)

  pub first_are : (long : ℕ) → long ≡ bitmap_count column.form * word_count n → take long words ≡ flat_map packed (entries_bitmaps column entries)
  first_are long same =
      ap (take long) is ∙ take_at (flat_map packed (entries_bitmaps column entries)) rest long (words_long column entries n has.many ∙ sym same)

  -- and where bitmaps of these words are no entries', there are none
  pub no_column : (maps : List BitList) → AreBitmaps (bitmap_count column.form) n (bits_each maps) → (long : ℕ) → long ≡ bitmap_count column.form * word_count n
      → take long words ≡ flat_map packed (bits_each maps) → HaveNoEntries column (bits_each maps) → ⊥
  no_column maps all long same made none =
      none entries has.accepted
      (same_bitmaps (bitmap_count column.form) n (entries_bitmaps column entries) (bits_each maps) (bitmaps_long column entries n has.many) all
      (sym (first_are long same) ∙ made))

-- the bitmaps that are accepted from words are of one length
pub long_bits : (count n : ℕ) (maps : List BitList) → AreBitmaps count n (bits_each maps) → (j : ℕ) → j < length maps → length (bits_at maps j) ≡ n
long_bits count n maps all j within =
    ap length (sym (read_bits maps j)) ∙ all.each j (omega (arith, within, all.many, length-map maps (λ (b : BitList). b.bits)))

-- ---- feeders

bytes_below : (feeders : ℕ) (xs : List ℕ) → feeders ≤ 64 → All (λ feeder. feeder < feeders) xs → AreBytes xs
bytes_below feeders xs few all = record { each = at xs all }
  where
    at : (ys : List ℕ) → All (λ feeder. feeder < feeders) ys → (i : ℕ) → get_or ys i 0 < 256
    at [] all i = omega arith
    at (y ∷ ys) all zero = omega (arith, few, All-head (λ feeder. feeder < feeders) y ys all)
    at (y ∷ ys) all (suc i) = at ys (All-tail (λ feeder. feeder < feeders) y ys all) i

all_at : (feeders : ℕ) (xs : List ℕ) → All (λ feeder. feeder < feeders) xs → (i : ℕ) → i < length xs → get_or xs i 0 < feeders
all_at feeders [] all i within = absurd (omega (arith, within))
all_at feeders (x ∷ xs) all zero within = All-head (λ feeder. feeder < feeders) x xs all
all_at feeders (x ∷ xs) all (suc i) within = all_at feeders xs (All-tail (λ feeder. feeder < feeders) x xs all) i (omega (arith, within))

-- bytes of which one is no feeder are those of no feeders
pub no_feeders : (feeders : ℕ) (bytes row_feeders words : List ℕ) → feeders ≤ 64 → AreBytes bytes → length bytes ≡ length row_feeders → words ≡ packed_bytes bytes
    → All (λ feeder. feeder < feeders) row_feeders → words ≡ packed_bytes row_feeders → HasOtherFeeder feeders bytes → ⊥
no_feeders feeders bytes row_feeders words few are long made all is other =
    let same = same_bytes bytes row_feeders are (bytes_below feeders row_feeders few all) long (sym made ∙ is) in
    let below = all_at feeders row_feeders all other.0 (omega (arith, other.1, long)) in
    omega (arith, other.2, below, ap (λ (xs : List ℕ). get_or xs other.0 0) same)

pub feeders_are_bytes : (feeders : ℕ) (xs : List ℕ) → feeders ≤ 64 → All (λ feeder. feeder < feeders) xs → AreBytes xs
feeders_are_bytes = bytes_below

pub long_each : (maps : List BitList) → length (bits_each maps) ≡ length maps
long_each maps = length-map maps (λ (b : BitList). b.bits)

-- behind the words of a column's bitmaps of so many rows stands the same, whichever entries they are of
pub same_column_words : (column : NamedColumn) (xs ys : Entries) (n : ℕ) (us vs : List ℕ) → length xs ≡ n → length ys ≡ n
    → flat_map packed (entries_bitmaps column xs) ++ us ≡ flat_map packed (entries_bitmaps column ys) ++ vs → us ≡ vs
same_column_words column xs ys n us vs xs_long ys_long same =
    same_rest (flat_map packed (entries_bitmaps column xs)) (flat_map packed (entries_bitmaps column ys)) us vs
    (words_long column xs n xs_long ∙ sym (words_long column ys n ys_long)) same

-- the feeders of several
pub several : (feeders : ℕ) (xs : List ℕ) → nat_eq feeders 1 ≡ false → feeder_words feeders xs ≡ packed_bytes xs
several feeders xs apart = ap (λ b. if b then [] else packed_bytes xs) apart

pub length-bytes : (xs : List ℕ) → length (packed_bytes xs) ≡ div_ceil (length xs) 8
length-bytes xs = length-words_of (div_ceil (length xs) 8) xs

pub if_ok_none : {T E P Q : Type 0} (r : Result (Option T) E) → (P → Q) → IfOk r (λ option. IfNone option P) → IfOk r (λ option. IfNone option Q)
if_ok_none (Ok None) follows p = follows p
if_ok_none (Ok (Some x)) follows p = tt
if_ok_none (Err e) follows p = tt
