-- The groups of tallies.
use Rattle.std.proofs.Common.{◌≡◌, ℕ, ◌+◌, ◌<◌, ◌≤◌, Bool, true, false, ℤ, pos, List, [], ◌∷◌, ◌++◌, Option, Some, None, All, Contains, length, get_or, map, filter, inl, inr, refl, ap, ap₂, sym, subst, ◌∙◌, arith, length-append}
use Rattle.std.specs.Prelude.{◌&&◌, ◌+ℤ◌, ◌-ℤ◌, ◌≤ℤ◌, ◌<ℤ◌, count_by, int_lt, nat_lt, unsigned_abs, if◌then◌else◌, IsTrue}
use Rattle.std.specs.List.{items_where_true}
use Rattle.std.specs.Option.{option_map}
use Rattle.std.proofs.lemmas.Bool.{cases_lt}
use Rattle.std.proofs.lemmas.Bool.Decides.{nat_tests}
use Rattle.std.proofs.lemmas.Int.{ints}
use Rattle.std.proofs.lemmas.List.{length-map, map-append}
use Rattle.std.proofs.lemmas.List.Elements.{All-cons, All-contains, All-contains_itself, All-filter, All-get_or, All-head, All-nil, All-push, All-tail, All-weaker, Contains-append_left, Contains-push, filter_passes}
use Rattle.std.proofs.lemmas.Simd.{length-zip2}
use Rattle.std.proofs.lemmas.List.Quantifiers.{all_pairs_push}
use Rattle.bsi_digits.specs.Offsets.{number_of, IsInRange}
use Rattle.bsi_rows.specs.Rows.{column_of, SourcedRow}
use Rattle.bsi_rows.specs.declared.query.Answer.{Answer}
use Rattle.bsi_rows.specs.declared.query.Answer.TheVariants.{Count as count_answer}
use Rattle.bsi_rows.specs.declared.query.Total.{Total}
use Rattle.bsi_rows.specs.declared.query.Total.TheVariants.{Count, Sum, Least, Greatest, Median, Rank, Rows}
use Rattle.bsi_table.specs.Totals.{IsTotalAt}
use Rattle.bsi_shift.specs.Shifted.{shifted_entries, shifted_size, OffsetColumn}
use Rattle.bsi_aggregates.specs.Entries.{comes_before, is_entry, rows_having}
use Rattle.bsi_aggregates.specs.ColumnGroups.{column_keys_of, rows_with_entry, selected_entries, AreColumnGroups, AreMoreEntries, EntriesRise}
use Rattle.bsi_aggregates.specs.Tallies.{entries_or_nulls, tally_entry, total_column, AreEntryTallies, IsTally, IsTotalOf}
use Rattle.bsi_aggregates.specs.declared.column_groups.ColumnGroup.{ColumnGroup}
use Rattle.bsi_aggregates.specs.declared.tally.Tally.{Tally}
use Rattle.bsi_aggregates.proofs.FirstEntries.{entries_counted}
use Rattle.bsi_aggregates.proofs.Order.{entry_is, is_itself}
use Rattle.bsi_aggregates.proofs.Remaining.{entries_passing, unfiltered}
use Rattle.bsi_aggregates.proofs.Tallied.{entry_below, entry_last, whole}

-- ---- the places of entries

all_found : (P : Option ℤ → Type 0) (selection : List Bool) (xs : List (Option ℤ)) → All P xs → All P (items_where_true selection xs)
all_found P [] [] all = All-nil P
all_found P [] (x ∷ xs) all = All-nil P
all_found P (f ∷ selection) [] all = All-nil P
all_found P (true ∷ selection) (x ∷ xs) all = All-cons P x (items_where_true selection xs) (All-head P x xs all) (all_found P selection xs (All-tail P x xs all))
all_found P (false ∷ selection) (x ∷ xs) all = all_found P selection xs (All-tail P x xs all)

module _ (offset : ℤ) (size : ℕ) where
  -- an entry has a place
  place_for : (e : Option ℤ) → IsInRange offset size e → (k : ℕ) × (k ≤ size) × (tally_entry offset size k ≡ e)
  place_for None in_range = (size, omega arith, entry_last offset size)
  place_for (Some n) in_range =
      let k = unsigned_abs (n -ℤ offset) in
      let is : number_of offset k ≡ n = apart offset n in_range.0 in
      let below : k < size = fewer offset n size in_range.0 in_range.1 in
      (k, omega (arith, below), entry_below offset size k below ∙ ap Some is)
    where
      apart : (x y : ℤ) → x ≤ℤ y → number_of x (unsigned_abs (y -ℤ x)) ≡ y
      apart x y above = grind (arith, ints)

      fewer : (x y : ℤ) (size : ℕ) → x ≤ℤ y → y <ℤ (x +ℤ pos size) → unsigned_abs (y -ℤ x) < size
      fewer x y size above below = grind (arith, ints)

  -- the entries at places rise
  places_rise : (j k : ℕ) → j < k → k ≤ size → comes_before (tally_entry offset size j) (tally_entry offset size k) ≡ true
  places_rise j k before within =
      ap (λ e. comes_before e (tally_entry offset size k)) (entry_below offset size j (omega (arith, before, within))) ∙ by (nat_lt k size)
    where
      lower : (x : ℤ) (i j : ℕ) → i < j → int_lt (number_of x i) (number_of x j) ≡ true
      lower x i j below = grind (arith, ints, nat_tests)

      by : (b : Bool) → comes_before (Some (number_of offset j)) (if b then Some (number_of offset k) else None) ≡ true
      by true = lower offset j k before
      by false = refl

-- ---- the rows of a tally

module _ (selection : List Bool) (by : ℕ) (rows : List SourcedRow) (same : length (column_of rows by) ≡ length selection) where
  with_counted : (e : Option ℤ) → length (filter (is_entry e) (selected_entries selection by rows)) ≡ count_by (λ b. b) (rows_with_entry selection by rows e)
  with_counted e =
      let once = length-map (column_of rows by) (is_entry e) in
      let long = length-zip2 ◌&&◌ (map (is_entry e) (column_of rows by)) selection (once ∙ same) ∙ once in
      ap length (sym (entries_passing (is_entry e) (column_of rows by) selection)) ∙ entries_counted (rows_with_entry selection by rows e) (column_of rows by) (sym long)

  -- an entry that a row has
  had_by : (e : Option ℤ) → 0 < count_by (λ b. b) (rows_with_entry selection by rows e) → Contains (selected_entries selection by rows) e
  had_by e some =
      let among = filter (is_entry e) (selected_entries selection by rows) in
      let one : 0 < length among = omega (arith, some, with_counted e) in
      let is = entry_is e (get_or among 0 None) (All-get_or (λ x. is_entry e x ≡ true) among 0 None one (filter_passes (is_entry e) (selected_entries selection by rows))) in
      subst (Contains (selected_entries selection by rows)) is
      (All-get_or (Contains (selected_entries selection by rows)) among 0 None one (All-filter (is_entry e) (Contains (selected_entries selection by rows)) (selected_entries selection by rows) (All-contains_itself (selected_entries selection by rows))))

  counted_by : (e : Option ℤ) → Contains (selected_entries selection by rows) e → 0 < count_by (λ b. b) (rows_with_entry selection by rows e)
  counted_by e there =
      let among = filter (is_entry e) (selected_entries selection by rows) in
      let here = All-contains (λ x. is_entry e x ≡ true → Contains among x) (selected_entries selection by rows) e (unfiltered (Contains among) (is_entry e) (selected_entries selection by rows) (All-contains_itself among)) there (is_itself e) in
      omega (arith, here.1, with_counted e)

-- the entries that are read for a total
abbrev pub total_entries : Total → List SourcedRow → List Bool → List (Option ℤ)
total_entries total rows selection = entries_or_nulls selection (option_map (column_of rows) (total_column total))

pub entries_long : (total : Total) (rows : List SourcedRow) (selection : List Bool) → length selection ≡ length rows → length (total_entries total rows selection) ≡ length selection
entries_long Count rows selection same = length-map selection _
entries_long (Sum c) rows selection same = length-map rows _ ∙ sym same
entries_long (Least c) rows selection same = length-map rows _ ∙ sym same
entries_long (Greatest c) rows selection same = length-map rows _ ∙ sym same
entries_long (Median c) rows selection same = length-map rows _ ∙ sym same
entries_long (Rank c rank) rows selection same = length-map rows _ ∙ sym same
entries_long Rows rows selection same = length-map selection _

-- the answer that a tally gives is the total of its rows
pub total_at : (total : Total) (rows : List SourcedRow) (selection bits : List Bool) (answer : Answer) → length (total_entries total rows selection) ≡ length bits
    → IsTotalOf total (items_where_true bits (total_entries total rows selection)) answer → IsTotalAt total bits rows answer
total_at Count rows selection bits answer same is = is ∙ ap count_answer (entries_counted bits (map (λ _. None) selection) same)
total_at (Sum c) rows selection bits answer same is = is
total_at (Least c) rows selection bits answer same is = is
total_at (Greatest c) rows selection bits answer same is = is
total_at (Median c) rows selection bits answer same is = absurd is
total_at (Rank c rank) rows selection bits answer same is = absurd is
total_at Rows rows selection bits answer same is = absurd is

-- ---- the groups of the tallies so far

-- an entry that is tallied at one of the first k places
abbrev pub IsAt : ℤ → ℕ → ℕ → Option ℤ → Type 0
IsAt offset size k e = (j : ℕ) × (j < k) × (e ≡ tally_entry offset size j)

-- the groups of the first k tallies that have rows
pub record AreTallied (total : Total) (selection : List Bool) (by : ℕ) (rows : List SourcedRow) (offset : ℤ) (size : ℕ) (tallies : List Tally) (k : ℕ) (groups : List ColumnGroup) : Type 0 where
  pub places : All (IsAt offset size k) (column_keys_of groups)
  pub rise : EntriesRise (column_keys_of groups)
  pub had : All (Contains (selected_entries selection by rows)) (column_keys_of groups)
  pub all : (j : ℕ) (d : Tally) → j < k → 0 < (get_or tallies j d).rows → Contains (column_keys_of groups) (tally_entry offset size j)
  pub answers : All (λ group. IsTotalAt total (rows_with_entry selection by rows group.entry) rows group.answer) groups

module _ (total : Total) (selection : List Bool) (by : ℕ) (rows : List SourcedRow) (offset : ℤ) (size : ℕ) (tallies : List Tally) where
  module _ (same : length selection ≡ length rows) (keys : OffsetColumn) (offset_is : keys.offset ≡ offset) (size_is : shifted_size keys ≡ size) (keys_are : shifted_entries keys ≡ column_of rows by) (entries : List (Option ℤ)) (entries_are : entries ≡ total_entries total rows selection)
      (are : AreEntryTallies keys entries selection (length selection) tallies) where
    long : length (column_of rows by) ≡ length selection
    long = length-map rows _ ∙ sym same

    -- a tally is that of the rows that have its entry
    tally_of : (k : ℕ) (d : Tally) → k < length tallies → IsTally (items_where_true (rows_with_entry selection by rows (tally_entry offset size k)) (total_entries total rows selection)) (get_or tallies k d)
    tally_of k d within =
        subst (λ e. IsTally (items_where_true (rows_with_entry selection by rows e) (total_entries total rows selection)) (get_or tallies k d)) (ap₂ (λ o s. tally_entry o s k) offset_is size_is)
        (subst (λ xs. IsTally (items_where_true (rows_having xs selection (tally_entry keys.offset (shifted_size keys) k)) (total_entries total rows selection)) (get_or tallies k d)) keys_are
        (subst (λ es. IsTally (items_where_true (rows_having (shifted_entries keys) selection (tally_entry keys.offset (shifted_size keys) k)) es) (get_or tallies k d)) entries_are
        (subst (λ es. IsTally es (get_or tallies k d)) (whole keys entries selection (ap length keys_are ∙ long) (ap length entries_are ∙ entries_long total rows selection same) (length selection) k (omega arith)) (are.each k d within))))

    with_long : (e : Option ℤ) → length (rows_with_entry selection by rows e) ≡ length rows
    with_long e = let once = length-map (column_of rows by) (is_entry e) in length-zip2 ◌&&◌ (map (is_entry e) (column_of rows by)) selection (once ∙ long) ∙ once ∙ long ∙ same

    read_long : (e : Option ℤ) → length (total_entries total rows selection) ≡ length (rows_with_entry selection by rows e)
    read_long e = entries_long total rows selection same ∙ same ∙ sym (with_long e)

    rows_of : (k : ℕ) (d : Tally) → k < length tallies → (get_or tallies k d).rows ≡ count_by (λ b. b) (rows_with_entry selection by rows (tally_entry offset size k))
    rows_of k d within =
        (tally_of k d within).rows
        ∙ entries_counted (rows_with_entry selection by rows (tally_entry offset size k)) (total_entries total rows selection) (read_long (tally_entry offset size k))

    module _ (k : ℕ) (groups : List ColumnGroup) (so_far : AreTallied total selection by rows offset size tallies k groups) where
      -- a tally of no row
      pub no_group : (d : Tally) → k < length tallies → (get_or tallies k d).rows ≡ 0 → AreTallied total selection by rows offset size tallies (k + 1) groups
      no_group d within none = record {
        places = All-weaker (IsAt offset size k) (IsAt offset size (k + 1)) (λ e at. (at.0, omega (arith, at.1), at.2)) (column_keys_of groups) so_far.places;
        rise = so_far.rise;
        had = so_far.had;
        all = λ j d' before some. elim (cases_lt j k) [
          | inl below ↦ so_far.all j d' below some
          | inr past ↦ let here : j ≡ k = omega (arith, past, before) in absurd (omega (arith, none, rows_of k d within, rows_of j d' (omega (arith, here, within)), some, ap (λ j. count_by (λ b. b) (rows_with_entry selection by rows (tally_entry offset size j))) here))
        ];
        answers = so_far.answers;
      }

      module _ (d : Tally) (within : k < length tallies) (some : 0 < (get_or tallies k d).rows) where
        keys_rise : EntriesRise (column_keys_of groups ++ tally_entry offset size k ∷ [])
        keys_rise = all_pairs_push (λ earlier later. IsTrue (comes_before earlier later)) (column_keys_of groups) (tally_entry offset size k) so_far.rise (λ i d far. before (get_or (column_keys_of groups) i d) (so_far.places i d far))
          where
            before : (e : Option ℤ) → IsAt offset size k e → comes_before e (tally_entry offset size k) ≡ true
            before e at = ap (λ e. comes_before e (tally_entry offset size k)) at.2 ∙ places_rise offset size at.0 k at.1 (omega (arith, within, are.long, size_is))

        keys_had : All (Contains (selected_entries selection by rows)) (column_keys_of groups ++ tally_entry offset size k ∷ [])
        keys_had = All-push (Contains (selected_entries selection by rows)) (column_keys_of groups) (tally_entry offset size k) so_far.had (had_by selection by rows long (tally_entry offset size k) (omega (arith, some, rows_of k d within)))

        -- one group more is too many
        pub too_many : AreMoreEntries (length groups) (selected_entries selection by rows)
        too_many = record {
          some = column_keys_of groups ++ tally_entry offset size k ∷ [];
          rise = keys_rise;
          had = keys_had;
          many = omega (arith, length-append (column_keys_of groups) (tally_entry offset size k ∷ []), length-map groups (λ (group : ColumnGroup). group.entry));
        }

        pub one_group : (e : Option ℤ) (answer : Answer) → tally_entry offset size k ≡ e → ((es : List (Option ℤ)) → IsTally es (get_or tallies k d) → IsTotalOf total es answer)
            → AreTallied total selection by rows offset size tallies (k + 1) (groups ++ (record { entry = e; answer = answer }) ∷ [])
        one_group e answer is total_is = record {
          places = subst (All (IsAt offset size (k + 1))) (sym keys_more)
              (All-push (IsAt offset size (k + 1)) (column_keys_of groups) (tally_entry offset size k) (All-weaker (IsAt offset size k) (IsAt offset size (k + 1)) (λ e at. (at.0, omega (arith, at.1), at.2)) (column_keys_of groups) so_far.places) (k, omega arith, refl));
          rise = subst EntriesRise (sym keys_more) keys_rise;
          had = subst (All (Contains (selected_entries selection by rows))) (sym keys_more) keys_had;
          all = λ j d' before some'. subst (λ keys. Contains keys (tally_entry offset size j)) (sym keys_more) (elim (cases_lt j k) [
            | inl below ↦ Contains-append_left (column_keys_of groups) (tally_entry offset size k ∷ []) (tally_entry offset size j) (so_far.all j d' below some')
            | inr past ↦ let here : k ≡ j = omega (arith, past, before) in subst (λ j. Contains (column_keys_of groups ++ tally_entry offset size k ∷ []) (tally_entry offset size j)) here (Contains-push (column_keys_of groups) (tally_entry offset size k))
          ]);
          answers = All-push (λ group. IsTotalAt total (rows_with_entry selection by rows group.entry) rows group.answer) groups group so_far.answers
              (subst (λ e. IsTotalAt total (rows_with_entry selection by rows e) rows answer) is
              (total_at total rows selection (rows_with_entry selection by rows (tally_entry offset size k)) answer (read_long (tally_entry offset size k)) (total_is _ (tally_of k d within))));
        }
          where
            group : ColumnGroup
            group = record { entry = e; answer = answer }

            keys_more : column_keys_of (groups ++ group ∷ []) ≡ column_keys_of groups ++ tally_entry offset size k ∷ []
            keys_more = map-append (λ group. group.entry) groups (group ∷ []) ∙ ap (λ e. column_keys_of groups ++ e ∷ []) (sym is)

    -- all groups
    pub all_groups : (groups : List ColumnGroup) → AreTallied total selection by rows offset size tallies (length tallies) groups → All (IsInRange offset size) (column_of rows by)
        → AreColumnGroups total selection by rows groups
    all_groups groups so_far in_range = record {
      rise = so_far.rise;
      had = so_far.had;
      all = All-weaker (λ e. Contains (selected_entries selection by rows) e × IsInRange offset size e) (Contains (column_keys_of groups)) split_off (selected_entries selection by rows)
          (λ i d within. (All-contains_itself (selected_entries selection by rows) i d within, all_found (IsInRange offset size) selection (column_of rows by) in_range i d within));
      answers = so_far.answers;
    }
      where
        split_off : (e : Option ℤ) → Contains (selected_entries selection by rows) e × IsInRange offset size e → Contains (column_keys_of groups) e
        split_off e is =
            let place = place_for offset size e is.1 in
            let near : place.0 < length tallies = omega (arith, place.1, are.long, size_is) in
            let counted = subst (λ e. 0 < count_by (λ b. b) (rows_with_entry selection by rows e)) (sym place.2) (counted_by selection by rows long e is.0) in
            let d = get_or tallies 0 empty in
            subst (Contains (column_keys_of groups)) place.2 (so_far.all place.0 d near (omega (arith, counted, rows_of place.0 d near)))
          where
            empty : Tally
            empty = record { rows = 0; sum = pos 0; least = None; greatest = None }
