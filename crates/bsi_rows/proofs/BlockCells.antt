-- What a block keeps to, as its entries are written.
use Rattle.std.proofs.Common.{◌≡◌, ◌≢◌, ℕ, ◌+◌, ◌*◌, ◌%◌, ◌^◌, ◌<◌, ◌≤◌, List, [], ◌∷◌, ◌++◌, Option, None, Some, All, Bool, false, length, length-set, map, take, drop, get_or, replicate, set, suc, zero, bit_or, w64, true, true≢false, is_some, ℤ, pos, ◌+ℤ◌, inl, inr, refl, ap, ap₂, subst, sym, ◌∙◌, arith, below_more}
use Rattle.std.specs.Prelude.{◌==◌, slice_index, if◌then◌else◌}
use Rattle.std.specs.Int.{bit_at}
use Rattle.std.specs.List.{range_with_len}
use Rattle.std.specs.Option.{option_map}
use Rattle.std.proofs.lemmas.Bool.{cases_eq, cases_lt}
use Rattle.std.proofs.lemmas.Bool.Decides.{nat_tests}
use Rattle.std.proofs.lemmas.Int.{ints}
use Rattle.std.proofs.lemmas.List.{append-nil, append_assoc, get_or_past, get_or-drop, get_or-map, get_or-replicate, get_or-set_other, get_or-set_same, get_or-take, length-append, length-drop, length-replicate, length-take-le, replicate-append-replicate}
use Rattle.std.proofs.lemmas.List.Elements.{All-append, All-get_or, All-push, All-replicate}
use Rattle.std.proofs.lemmas.List.FromFn.{fill_by_all, length-map-range_with_len}
use Rattle.std.proofs.Math.Pow.{pow_mono}
use Rattle.std.proofs.Math.Seq.{take-append_seam}
use Rattle.std.proofs.lemmas.Nat.{one_shl, or_lt, pow_below, pow_pos}
use Rattle.std.proofs.lemmas.Nat.Bits.{bit_at_above, bit_at_set_other, bit_at_set_same, bit_at-lt}
use Rattle.bsi_schema.specs.Columns.{column_at, fits, is_accepted_by, no_column, size_in, IsColumn, NamedColumn}
use Rattle.bsi_schema.specs.Limits.{limits_of}
use Rattle.bsi_schema.specs.declared.limits.Limits.{Limits}
use Rattle.bsi_schema.proofs.Fitting.{fits-at, fits-each, fits-length, limits_long, within}
use Rattle.bsi_digits.specs.Blocks.{offset_entries, value_entries, value_entry, IsNumberBlock}
use Rattle.bsi_digits.specs.Offsets.{number_of, IsInRange}
use Rattle.bsi_digits.proofs.BlockEntries.{get_or-offset_entries, get_or-value_entries, length-offset_entries, length-value_entries}
use Rattle.bsi_rows.specs.RowBlocks.{cell_number, least_at, cell_entry, row_of_cells, rows_of_cells, IsBlock, IsSameCell, IsValueAt, IsWrittenEntry}
use Rattle.bsi_rows.specs.Rows.{column_of, entry_at, Entries}
use Rattle.bsi_rows.proofs.BlockRows.{column-rows_of_cells, entry-row_of_cells, no_column-rows_of_cells, row_of_cells-same, row_of_cells-written, rows_of_cells-more, rows_of_cells-same, same_below}

-- a cell that is kept as before is the same entry
module _ (limits : List Limits) (numbers not_null new_numbers new_not_null : List ℕ) (c r : ℕ) (same : IsSameCell numbers not_null new_numbers new_not_null c r) where
  pub number_same : cell_number new_numbers new_not_null c r ≡ cell_number numbers not_null c r
  number_same = ap₂ (λ bit (number : ℕ). if bit == 1 then Some number else None) same.bit same.number

  pub entry_same : cell_entry limits new_numbers new_not_null c r ≡ cell_entry limits numbers not_null c r
  entry_same = ap (option_map (number_of (least_at limits c))) number_same

-- a row that fits is written behind the others of a block
module _ (columns : List NamedColumn) (limits : List Limits) (feeders : ℕ) (row_feeders numbers not_null new_numbers new_not_null : List ℕ)
    (is : IsBlock columns limits feeders row_feeders numbers not_null) (feeder at : ℕ) (row : Entries) (is_last : at ≡ length row_feeders) (room : at < 64)
    (fed : feeder < feeders) (fit : fits columns row ≡ true) (long : length new_numbers ≡ length numbers) (words : length new_not_null ≡ length not_null)
    (others : (c r : ℕ) → r < 64 → r ≢ at → IsSameCell numbers not_null new_numbers new_not_null c r)
    (written : (c : ℕ) → c < length columns → IsWrittenEntry limits new_numbers new_not_null c at (entry_at row c)) where
  before : (c r : ℕ) → r < length row_feeders → IsSameCell numbers not_null new_numbers new_not_null c r
  before c r below = others c r (omega (arith, below, is_last, room)) (λ e. absurd (omega (arith, e, below, is_last)))

  earlier : (c r : ℕ) → r < length row_feeders → cell_entry limits new_numbers new_not_null c r ≡ cell_entry limits numbers not_null c r
  earlier c r below = entry_same limits numbers not_null new_numbers new_not_null c r (before c r below)

  last : (c : ℕ) → c < length columns → cell_entry limits new_numbers new_not_null c (length row_feeders) ≡ entry_at row c
  last c within = ap (cell_entry limits new_numbers new_not_null c) (sym is_last) ∙ (written c within).entry_is

  -- it has one more row
  pub rows_more : rows_of_cells (length columns) (row_feeders ++ feeder ∷ []) (cell_entry limits new_numbers new_not_null)
      ≡ rows_of_cells (length columns) row_feeders (cell_entry limits numbers not_null) ++ (feeder, row) ∷ []
  rows_more =
      rows_of_cells-more (length columns) row_feeders (cell_entry limits numbers not_null) (cell_entry limits new_numbers new_not_null) feeder row
      (fits-length columns row fit) earlier last

  -- and keeps to what a block keeps to
  pub block_more : IsBlock columns limits feeders (row_feeders ++ feeder ∷ []) new_numbers new_not_null
  block_more =
      let wide = fits-length columns row fit in
      let entry = cell_entry limits numbers not_null in
      let new = cell_entry limits new_numbers new_not_null in
      let more = length-append row_feeders (feeder ∷ []) in
      record {
        limits_are = is.limits_are;
        columns_are = is.columns_are;
        few = omega (arith, more, is_last, room);
        long = long ∙ is.long;
        words = words ∙ is.words;
        from = All-push (λ feeder. feeder < feeders) row_feeders feeder is.from fed;
        fitting = λ r below.
            below_more (λ k. fits columns (row_of_cells (length columns) new k) ≡ true) (length row_feeders)
            (λ k h. ap (fits columns) (row_of_cells-same (length columns) row_feeders entry new k (λ c within. earlier c k h)) ∙ is.fitting k h)
            (ap (fits columns) (row_of_cells-written (length columns) row_feeders entry new feeder row wide earlier last) ∙ fit) r (omega (arith, below, more));
        nulls = λ c r within below.
            below_more (λ k. cell_number new_numbers new_not_null c k ≡ None → get_or new_numbers (64 * c + k) 0 ≡ 0) (length row_feeders)
            (λ k h none. (before c k h).number ∙ is.nulls c k within h (sym (number_same limits numbers not_null new_numbers new_not_null c k (before c k h)) ∙ none))
            (λ none. ap (λ n. get_or new_numbers (64 * c + n) 0) (sym is_last) ∙ (written c within).null (ap (cell_number new_numbers new_not_null c) is_last ∙ none)) r (omega (arith, below, more));
        clear = λ c. elim (cases_lt c (length columns)) [
          | inl within ↦ ap_< c (written c within).clear
          | inr past ↦ omega (arith, get_or_past new_not_null c 0 (omega (arith, past, words, is.words)), pow_pos (length (row_feeders ++ feeder ∷ [])))
        ];
      }
    where
      ap_< : (c : ℕ) → slice_index new_not_null c < 2 ^ (at + 1) → slice_index new_not_null c < 2 ^ length (row_feeders ++ feeder ∷ [])
      ap_< c below = subst (λ n. slice_index new_not_null c < 2 ^ n) (let many : at + 1 ≡ length (row_feeders ++ feeder ∷ []) = omega (arith, is_last, length-append row_feeders (feeder ∷ [])) in many) below

some_is_not_none : {n : ℕ} → Some n ≡ None → ⊥
some_is_not_none same = absurd (true≢false (ap is_some same))

-- an entry is written: a null
module _ (limits : List Limits) (numbers not_null : List ℕ) (c r : ℕ) (within : 64 * c + r < length numbers) (clear : get_or not_null c 0 < 2 ^ r) where
  pub written_null : IsWrittenEntry limits (set numbers (64 * c + r) 0) not_null c r None
  written_null = record {
    entry_is = ap (λ bit. option_map (number_of (least_at limits c)) (if bit == 1 then Some (get_or (set numbers (64 * c + r) 0) (64 * c + r) 0) else None)) (bit_at_above (get_or not_null c 0) r r clear (omega arith));
    null = λ none. get_or-set_same numbers (64 * c + r) 0 0 within;
    clear = let more = pow_below r (r + 1) (omega arith) in omega (arith, clear, more);
  }

  -- or a number
  module _ (n : ℕ) (there : c < length not_null) (near : r < 64) where
    abbrev pub written_word : List ℕ
    written_word = set not_null c (bit_or (get_or not_null c 0) (1 * 2 ^ r % 2 ^ 64))

    word_is : get_or written_word c 0 ≡ bit_or (get_or not_null c 0) (1 * 2 ^ r % 2 ^ 64)
    word_is = get_or-set_same not_null c _ 0 there

    pub written_number : (entry : Option ℤ) → entry ≡ Some (number_of (least_at limits c) n) → IsWrittenEntry limits (set numbers (64 * c + r) n) written_word c r entry
    written_number entry is =
        let bit : bit_at (get_or written_word c 0) r ≡ 1 = ap (λ w. bit_at w r) word_is ∙ bit_at_set_same w64 (get_or not_null c 0) r near in
        let number = get_or-set_same numbers (64 * c + r) n 0 within in
        record {
          entry_is = ap₂ (λ b (x : ℕ). option_map (number_of (least_at limits c)) (if b == 1 then Some x else None)) bit number ∙ sym is;
          null = λ none. absurd (some_is_not_none (sym (ap₂ (λ b (x : ℕ). if b == 1 then Some x else None) bit number) ∙ none));
          clear = subst (λ w. w < 2 ^ (r + 1)) (sym word_is) below;
        }
      where
        below : bit_or (get_or not_null c 0) (1 * 2 ^ r % 2 ^ 64) < 2 ^ (r + 1)
        below =
            let more = pow_below r (r + 1) (omega arith) in
            or_lt (r + 1) (get_or not_null c 0) (1 * 2 ^ r % 2 ^ 64) (omega (arith, clear, more)) (omega (arith, more, one_shl r 64 near))

    pub other_rows : (k s : ℕ) → s < 64 → s ≢ r → IsSameCell numbers not_null (set numbers (64 * c + r) n) written_word k s
    other_rows k s near_too apart = record {
      number = get_or-set_other numbers (64 * c + r) (64 * k + s) n 0 (λ e. apart (omega (arith, e, near_too, near)));
      bit = elim (cases_eq k c) [
        | inl same ↦ ap (λ i. bit_at (get_or written_word i 0) s) same ∙ ap (λ w. bit_at w s) word_is ∙ bit_at_set_other w64 (get_or not_null c 0) r near s apart ∙ ap (λ i. bit_at (get_or not_null i 0) s) (sym same)
        | inr other ↦ ap (λ w. bit_at w s) (get_or-set_other not_null c k _ 0 other)
      ];
    }

-- what is lent of a column
module _ (columns : List NamedColumn) (limits : List Limits) (feeders : ℕ) (row_feeders numbers not_null : List ℕ)
    (is : IsBlock columns limits feeders row_feeders numbers not_null) (c : ℕ) (within : c < length columns) where
  abbrev pub lent_numbers : List ℕ
  lent_numbers = take (length row_feeders) (drop (64 * c) numbers)

  pub lent_long : length lent_numbers ≡ length row_feeders
  lent_long = length-take-le (length row_feeders) (drop (64 * c) numbers) (omega (arith, length-drop (64 * c) numbers, is.few, is.long, within))

  lent_number : (r : ℕ) → r < length row_feeders → get_or lent_numbers r 0 ≡ get_or numbers (64 * c + r) 0
  lent_number r below = get_or-take (length row_feeders) (drop (64 * c) numbers) r 0 below ∙ get_or-drop (64 * c) numbers r 0

  pub lent_block : IsNumberBlock lent_numbers (get_or not_null c 0)
  lent_block = record {
    nulls = λ r clear. elim (cases_lt r (length row_feeders)) [
      | inl below ↦ lent_number r below ∙ is.nulls c r within below (ap (λ bit. if bit == 1 then Some (get_or numbers (64 * c + r) 0) else None) clear)
      | inr past ↦ get_or_past lent_numbers r 0 (omega (arith, past, lent_long))
    ];
    clear = subst (λ n. get_or not_null c 0 < 2 ^ n) (sym lent_long) (is.clear c);
  }

  pub lent_entries : offset_entries (least_at limits c) lent_numbers (get_or not_null c 0) ≡ column_of (rows_of_cells (length columns) row_feeders (cell_entry limits numbers not_null)) c
  lent_entries =
      let offset = least_at limits c in
      let word = get_or not_null c 0 in
      fill_by_all (cell_entry limits numbers not_null c) (offset_entries offset lent_numbers word) (length row_feeders) None
      (length-offset_entries offset lent_numbers word ∙ lent_long)
      (λ r below.
      get_or-offset_entries offset lent_numbers word r (omega (arith, below, lent_long))
      ∙ ap (λ (n : ℕ). option_map (number_of offset) (if bit_at word r == 1 then Some n else None)) (lent_number r below))
      ∙ sym (column-rows_of_cells (length columns) row_feeders (cell_entry limits numbers not_null) c within)

-- an entry that its column takes
module _ (columns : List NamedColumn) (limits : List Limits) (are : limits ≡ map limits_of columns) (all : All IsColumn columns) where
  pub least_is : (c : ℕ) → c < length columns → least_at limits c ≡ (column_at columns c).offset
  least_is c within = ap (λ ls. least_at ls c) are ∙ ap (λ (l : Limits). l.least) (get_or-map limits_of columns c no_column (record { least = pos 0; size = 0 }) within)

  pub accepted_from : (c : ℕ) (entry : Option ℤ) → c < length columns → is_accepted_by (column_at columns c) entry ≡ true → IsInRange (least_at limits c) (2 ^ 64) entry
  accepted_from c entry there accepted = subst (λ (least : ℤ). IsInRange least (2 ^ 64) entry) (sym (least_is c there)) (by (All-get_or IsColumn columns c no_column there all) entry accepted)
    where
      by : IsColumn (column_at columns c) → (entry : Option ℤ) → is_accepted_by (column_at columns c) entry ≡ true → IsInRange (column_at columns c).offset (2 ^ 64) entry
      by is None accepted = tt
      by is (Some x) accepted =
          let column = column_at columns c in
          let range = within column.offset x (column.offset +ℤ pos (size_in column.form)) accepted in
          (range.0, omega (arith, ints, range.1, is.low, is.below))

  pub fitting_from : (row : Entries) → fits columns row ≡ true → (c : ℕ) → c < length limits → IsInRange (least_at limits c) (2 ^ 64) (entry_at row c)
  fitting_from row fit c near =
      let there : c < length columns = omega (arith, near, limits_long columns limits are) in
      accepted_from c (entry_at row c) there (fits-at columns row c fit there)

-- what is written through a borrow of all elements
pub written_back : (n : ℕ) (written rest : List ℕ) → length written ≡ n → take n (written ++ rest) ≡ written
written_back n written rest whole = ap (λ n. take n (written ++ rest)) (sym whole) ∙ take-append_seam written rest

-- a fact of three lists, of which each is the same as another
pub of_same : (P : List ℕ → List ℕ → List ℕ → Type 0) {a b c x y z : List ℕ} → x ≡ a → y ≡ b → z ≡ c → P a b c → P x y z
of_same P {a} {b} {c} {x} {y} {z} first second third holds =
    subst (λ x. P x y z) (sym first) (subst (λ y. P a y z) (sym second) (subst (λ z. P a b z) (sym third) holds))

-- a cell that is kept as in lists that are the same as others
pub same_before : (numbers old_numbers not_null old_not_null new_numbers new_not_null : List ℕ) (c r : ℕ) → numbers ≡ old_numbers → not_null ≡ old_not_null
    → IsSameCell numbers not_null new_numbers new_not_null c r → IsSameCell old_numbers old_not_null new_numbers new_not_null c r
same_before numbers old_numbers not_null old_not_null new_numbers new_not_null c r first second same = record {
  number = same.number ∙ ap (λ ns. get_or ns (64 * c + r) 0) first;
  bit = same.bit ∙ ap (λ ws. bit_at (get_or ws c 0) r) second;
}

-- one more of the same
replicate_more : {X : Type 0} (n : ℕ) (x : X) → replicate (suc n) x ≡ replicate n x ++ x ∷ []
replicate_more n x = let more : suc n ≡ n + 1 = omega arith in ap (λ k. replicate k x) more ∙ sym (replicate-append-replicate n 1 x)

-- a row of nulls
row_of_nulls : (columns : ℕ) (entry : ℕ → ℕ → Option ℤ) (r : ℕ) → ((c : ℕ) → c < columns → entry c r ≡ None) → row_of_cells columns entry r ≡ replicate columns None
unfolding row_of_cells
row_of_nulls columns entry r null =
    sym (fill_by_all (λ c. entry c r) (replicate columns None) columns None (length-replicate columns None) (λ c within. get_or-replicate columns c None None within ∙ sym (null c within)))

-- fits
nulls_fit : (columns : List NamedColumn) → fits columns (replicate (length columns) None) ≡ true
nulls_fit columns = fits-each columns (replicate (length columns) None) (length-replicate (length columns) None) (λ c within. ap (is_accepted_by (column_at columns c)) (get_or-replicate (length columns) c None None within))

-- rows of nulls stand behind the others
module _ (columns : List NamedColumn) (limits : List Limits) (feeders : ℕ) (row_feeders numbers not_null new_numbers : List ℕ)
    (is : IsBlock columns limits feeders row_feeders numbers not_null) (feeder count : ℕ) (room : length row_feeders + count ≤ 64) (fed : feeder < feeders)
    (long : length new_numbers ≡ length numbers)
    (null_numbers : (c r : ℕ) → c < length columns → length row_feeders ≤ r → r < length row_feeders + count → get_or new_numbers (64 * c + r) 0 ≡ 0)
    (others : (c r : ℕ) → r < length row_feeders → get_or new_numbers (64 * c + r) 0 ≡ get_or numbers (64 * c + r) 0) where
  abbrev null_row : Entries
  null_row = replicate (length columns) None

  earlier_same : (c r : ℕ) → r < length row_feeders → cell_entry limits new_numbers not_null c r ≡ cell_entry limits numbers not_null c r
  earlier_same c r below = entry_same limits numbers not_null new_numbers not_null c r (record { number = others c r below; bit = refl })

  past_null : (c r : ℕ) → length row_feeders ≤ r → cell_entry limits new_numbers not_null c r ≡ None
  past_null c r past =
      ap (λ bit. option_map (number_of (least_at limits c)) (if bit == 1 then Some (get_or new_numbers (64 * c + r) 0) else None))
      (bit_at_above (get_or not_null c 0) (length row_feeders) r (is.clear c) past)

  pub null_rows_more : (n : ℕ) → n ≤ count → rows_of_cells (length columns) (row_feeders ++ replicate n feeder) (cell_entry limits new_numbers not_null)
      ≡ rows_of_cells (length columns) row_feeders (cell_entry limits numbers not_null) ++ replicate n (feeder, null_row)
  null_rows_more zero few =
      ap (λ xs. rows_of_cells (length columns) xs (cell_entry limits new_numbers not_null)) (append-nil row_feeders)
      ∙ rows_of_cells-same (length columns) row_feeders (cell_entry limits numbers not_null) (cell_entry limits new_numbers not_null) (λ c r within below. earlier_same c r below)
      ∙ sym (append-nil (rows_of_cells (length columns) row_feeders (cell_entry limits numbers not_null)))
  null_rows_more (suc n) few =
      let entry = cell_entry limits new_numbers not_null in
      let so_far = row_feeders ++ replicate n feeder in
      let many : length so_far ≡ length row_feeders + n = length-append row_feeders (replicate n feeder) ∙ ap (λ k. length row_feeders + k) (length-replicate n feeder) in
      ap (λ xs. rows_of_cells (length columns) xs entry) (ap (λ xs. row_feeders ++ xs) (replicate_more n feeder) ∙ sym (append_assoc row_feeders (replicate n feeder) (feeder ∷ [])))
      ∙ rows_of_cells-more (length columns) so_far entry entry feeder null_row (length-replicate (length columns) None) (λ c r below. refl)
      (λ c within. past_null c (length so_far) (omega (arith, many)) ∙ sym (get_or-replicate (length columns) c None None within))
      ∙ ap (λ xs. xs ++ (feeder, null_row) ∷ []) (null_rows_more n (omega (arith, few)))
      ∙ append_assoc (rows_of_cells (length columns) row_feeders (cell_entry limits numbers not_null)) (replicate n (feeder, null_row)) ((feeder, null_row) ∷ [])
      ∙ ap (λ xs. rows_of_cells (length columns) row_feeders (cell_entry limits numbers not_null) ++ xs) (sym (replicate_more n (feeder, null_row)))

  pub null_block_more : IsBlock columns limits feeders (row_feeders ++ replicate count feeder) new_numbers not_null
  null_block_more =
      let many : length (row_feeders ++ replicate count feeder) ≡ length row_feeders + count = length-append row_feeders (replicate count feeder) ∙ ap (λ k. length row_feeders + k) (length-replicate count feeder) in
      record {
        limits_are = is.limits_are;
        columns_are = is.columns_are;
        few = omega (arith, many, room);
        long = long ∙ is.long;
        words = is.words;
        from = All-append (λ feeder. feeder < feeders) row_feeders (replicate count feeder) is.from (All-replicate (λ feeder. feeder < feeders) count feeder fed);
        fitting = λ r below. elim (cases_lt r (length row_feeders)) [
          | inl before ↦ ap (fits columns) (row_of_cells-same (length columns) row_feeders (cell_entry limits numbers not_null) (cell_entry limits new_numbers not_null) r (λ c within. earlier_same c r before)) ∙ is.fitting r before
          | inr past ↦ ap (fits columns) (row_of_nulls (length columns) (cell_entry limits new_numbers not_null) r (λ c within. past_null c r past)) ∙ nulls_fit columns
        ];
        nulls = λ c r within below none. elim (cases_lt r (length row_feeders)) [
          | inl before ↦ others c r before ∙ is.nulls c r within before (sym (number_same limits numbers not_null new_numbers not_null c r (record { number = others c r before; bit = refl })) ∙ none)
          | inr past ↦ null_numbers c r within past (omega (arith, below, many))
        ];
        clear = λ c. let more = pow_mono {i = length row_feeders} {j = length (row_feeders ++ replicate count feeder)} (omega (arith, many)) in omega (arith, is.clear c, more);
      }

length-row_of_cells : (columns : ℕ) (entry : ℕ → ℕ → Option ℤ) (r : ℕ) → length (row_of_cells columns entry r) ≡ columns
unfolding row_of_cells
length-row_of_cells columns entry r = length-map-range_with_len (λ c. entry c r) 0 columns

-- the values of a column are written
module _ (columns : List NamedColumn) (limits : List Limits) (feeders : ℕ) (row_feeders numbers not_null new_numbers : List ℕ) (is : IsBlock columns limits feeders row_feeders numbers not_null)
    (values : List ℤ) (word c : ℕ) (there : c < length columns) (many : length values ≡ length row_feeders) (clear : word < 2 ^ length values)
    (accepted : All (λ entry. is_accepted_by (column_at columns c) entry ≡ true) (value_entries values word)) (long : length new_numbers ≡ length numbers)
    (written : (r : ℕ) → r < length values → IsValueAt limits values word new_numbers c r)
    (others : (k s : ℕ) → k ≢ c → s < 64 → get_or new_numbers (64 * k + s) 0 ≡ get_or numbers (64 * k + s) 0) where
  abbrev pub words_with : List ℕ
  words_with = set not_null c word

  word_there : get_or words_with c 0 ≡ word
  word_there = get_or-set_same not_null c word 0 (omega (arith, there, is.words))

  other_cell : (k r : ℕ) → k ≢ c → r < length row_feeders → IsSameCell numbers not_null new_numbers words_with k r
  other_cell k r apart below = record {
    number = others k r apart (omega (arith, below, is.few));
    bit = ap (λ w. bit_at w r) (get_or-set_other not_null c k word 0 apart);
  }

  -- an entry of it is the value's
  pub entry_written : (r : ℕ) → r < length row_feeders → cell_entry limits new_numbers words_with c r ≡ value_entry values word r
  entry_written r below =
      ap (λ w. option_map (number_of (least_at limits c)) (if bit_at w r == 1 then Some (get_or new_numbers (64 * c + r) 0) else None)) word_there
      ∙ by (bit_at word r == 1) refl
    where
      by : (b : Bool) → (bit_at word r == 1) ≡ b
          → option_map (number_of (least_at limits c)) (if b then Some (get_or new_numbers (64 * c + r) 0) else None) ≡ (if b then Some (get_or values r (pos 0)) else None)
      by true set = ap Some ((written r (omega (arith, below, many))).number (one set))
        where
          one : (bit_at word r == 1) ≡ true → bit_at word r ≡ 1
          one set = grind (arith, nat_tests)
      by false set = refl

  -- the entries are as before in another column
  pub entry_unchanged : (k r : ℕ) → k ≢ c → r < length row_feeders → cell_entry limits new_numbers words_with k r ≡ cell_entry limits numbers not_null k r
  entry_unchanged k r apart below = entry_same limits numbers not_null new_numbers words_with k r (other_cell k r apart below)

  pub row_fits : (r : ℕ) → r < length row_feeders → fits columns (row_of_cells (length columns) (cell_entry limits new_numbers words_with) r) ≡ true
  row_fits r below =
      let new = cell_entry limits new_numbers words_with in
      fits-each columns (row_of_cells (length columns) new r) (length-row_of_cells (length columns) new r)
      (λ k within. ap (is_accepted_by (column_at columns k)) (entry-row_of_cells (length columns) row_feeders new k r within) ∙ elim (cases_eq k c) [
        | inl same ↦
            ap (λ k. is_accepted_by (column_at columns k) (new k r)) same ∙ ap (is_accepted_by (column_at columns c)) (entry_written r below ∙ sym (get_or-value_entries values word r (omega (arith, below, many))))
            ∙ All-get_or (λ entry. is_accepted_by (column_at columns c) entry ≡ true) (value_entries values word) r None (omega (arith, below, many, length-value_entries values word)) accepted
        | inr apart ↦
            ap (is_accepted_by (column_at columns k)) (entry_unchanged k r apart below ∙ sym (entry-row_of_cells (length columns) row_feeders (cell_entry limits numbers not_null) k r within))
            ∙ fits-at columns (row_of_cells (length columns) (cell_entry limits numbers not_null) r) k (is.fitting r below) within
      ])

  -- it keeps to what a block keeps to
  pub block_written : IsBlock columns limits feeders row_feeders new_numbers words_with
  block_written = record {
    limits_are = is.limits_are;
    columns_are = is.columns_are;
    few = is.few;
    long = long ∙ is.long;
    words = length-set not_null c word ∙ is.words;
    from = is.from;
    fitting = row_fits;
    nulls = λ k r within below none. elim (cases_eq k c) [
      | inl same ↦
          ap (λ k. get_or new_numbers (64 * k + r) 0) same
          ∙ (written r (omega (arith, below, many))).null (null_bit r (sym (ap (λ k. cell_number new_numbers words_with k r) same ∙ ap (λ w. if bit_at w r == 1 then Some (get_or new_numbers (64 * c + r) 0) else None) word_there) ∙ none))
      | inr apart ↦
          let cell = other_cell k r apart below in
          cell.number ∙ is.nulls k r within below (sym (number_same limits numbers not_null new_numbers words_with k r cell) ∙ none)
    ];
    clear = λ k. elim (cases_eq k c) [
      | inl same ↦ subst (λ k. get_or words_with k 0 < 2 ^ length row_feeders) (sym same) (subst (λ w. w < 2 ^ length row_feeders) (sym word_there) (subst (λ n. word < 2 ^ n) many clear))
      | inr apart ↦ subst (λ w. w < 2 ^ length row_feeders) (sym (get_or-set_other not_null c k word 0 apart)) (is.clear k)
    ];
  }
    where
      null_bit : (r : ℕ) → (if bit_at word r == 1 then Some (get_or new_numbers (64 * c + r) 0) else None) ≡ None → bit_at word r ≡ 0
      null_bit r none = by (bit_at word r == 1) refl none
        where
          by : (b : Bool) → (bit_at word r == 1) ≡ b → (if b then Some (get_or new_numbers (64 * c + r) 0) else None) ≡ None → bit_at word r ≡ 0
          by true set none = absurd (some_is_not_none none)
          by false set none = let low = bit_at-lt word r in grind (arith, nat_tests)

  -- the column has the values
  pub column_written : column_of (rows_of_cells (length columns) row_feeders (cell_entry limits new_numbers words_with)) c ≡ value_entries values word
  unfolding value_entries
  column_written =
      column-rows_of_cells (length columns) row_feeders (cell_entry limits new_numbers words_with) c there
      ∙ same_below None (cell_entry limits new_numbers words_with c) (value_entry values word) (length row_feeders) (λ r below. entry_written r below)
      ∙ ap (λ n. map (value_entry values word) (range_with_len 0 n)) (sym many)

  -- and each other one what it had
  pub column_unchanged : (k : ℕ) → k ≢ c → column_of (rows_of_cells (length columns) row_feeders (cell_entry limits new_numbers words_with)) k ≡ column_of (rows_of_cells (length columns) row_feeders (cell_entry limits numbers not_null)) k
  column_unchanged k apart = elim (cases_lt k (length columns)) [
    | inl within ↦
        column-rows_of_cells (length columns) row_feeders (cell_entry limits new_numbers words_with) k within
        ∙ same_below None (cell_entry limits new_numbers words_with k) (cell_entry limits numbers not_null k) (length row_feeders) (λ r below. entry_unchanged k r apart below)
        ∙ sym (column-rows_of_cells (length columns) row_feeders (cell_entry limits numbers not_null) k within)
    | inr past ↦
        no_column-rows_of_cells (length columns) row_feeders (cell_entry limits new_numbers words_with) k past
        ∙ sym (no_column-rows_of_cells (length columns) row_feeders (cell_entry limits numbers not_null) k past)
  ]
