-- The groups that were made so far by a first column and others, and what is left of the selection.
use Rattle.std.proofs.Common.{◌≡◌, ◌<◌, ◌+◌, ℕ, Bool, true, List, [], ◌∷◌, ◌++◌, Option, ℤ, All, Contains, length, map, filter, ap, ap₂, sym, subst, ◌∙◌, arith, inl, inr, length-append}
use Rattle.std.specs.Prelude.{◌&&◌, not, IsTrue}
use Rattle.std.specs.List.{items_where_true}
use Rattle.std.specs.Simd.Lanes.{zip2}
use Rattle.std.proofs.lemmas.List.{length-map, map-append}
use Rattle.std.proofs.lemmas.Simd.{map-map}
use Rattle.std.proofs.lemmas.List.Elements.{All-append, All-contains, All-contains_itself, All-filter, All-map, All-nil, All-push, All-weaker, Contains-append_left, Contains-append_right, Contains-push, Contains-push_cases}
use Rattle.bsi_bits.specs.BitList.{without}
use Rattle.bsi_rows.specs.Rows.{column_of, SourcedRow}
use Rattle.bsi_rows.specs.declared.query.Total.{Total}
use Rattle.bsi_table.specs.Totals.{IsTotalAt}
use Rattle.bsi_aggregates.specs.Entries.{comes_before, is_entry, IsFirst}
use Rattle.bsi_aggregates.specs.ColumnGroups.{rows_with_entry, selected_entries}
use Rattle.bsi_aggregates.specs.Groups.{keys_of, row_key, rows_with, selected_keys, with_first_entry, AreGroups, AreMore, Grouped, KeysRise}
use Rattle.bsi_aggregates.proofs.Order.{comes_after}
use Rattle.bsi_aggregates.proofs.GroupOrder.{rise_more, BeginsIn}
use Rattle.bsi_aggregates.proofs.SplitRows.{both, entry_in, firsts_are, of_others, both_there, keys_are, others_of, other_entries, unmapped}
use Rattle.bsi_aggregates.proofs.Remaining.{all_left, all_taken, entries_passing, first_after, none_taken, nothing_taken, one_taken, passing, rows_left, AreTaken}

-- each first entry split off so far has its groups
pub record AreGroupsMade (total : Total) (selection : List Bool) (first : ℕ) (others : List ℕ) (rows : List SourcedRow) (kept : List Grouped) (rest : List Bool) : Type 0 where
  pub firsts : List (Option ℤ)
  pub rest_is : rest ≡ passing (comes_after firsts) (column_of rows first) selection
  pub split_off : AreTaken (selected_entries selection first rows) firsts
  pub begin : All (BeginsIn firsts) (keys_of kept)
  pub rise : KeysRise (keys_of kept)
  pub had : All (Contains (selected_keys selection (first ∷ others) rows)) (keys_of kept)
  pub all : All (λ row. Contains firsts (entry_in first row) → Contains (keys_of kept) (row_key (first ∷ others) row)) (items_where_true selection rows)
  pub answers : All (λ group. IsTotalAt total (rows_with selection (first ∷ others) rows group.entries) rows group.answer) kept

-- the entries of a first column and these
abbrev keys_with : Option ℤ → List (List (Option ℤ)) → List (List (Option ℤ))
keys_with e some = map (λ y. e ∷ y) some

key_with : (e : Option ℤ) (y : List (Option ℤ)) (some : List (List (Option ℤ))) → Contains some y → Contains (keys_with e some) (e ∷ y)
key_with e y some there =
    All-contains (λ y. Contains (keys_with e some) (e ∷ y)) some y
    (unmapped (Contains (keys_with e some)) (λ y. e ∷ y) some (All-contains_itself (keys_with e some))) there

module _ (total : Total) (selection : List Bool) (first : ℕ) (others : List ℕ) (rows : List SourcedRow) where
  abbrev by : List ℕ
  by = first ∷ others

  abbrev Answered : Grouped → Type 0
  Answered group = IsTotalAt total (rows_with selection by rows group.entries) rows group.answer

  pub none_split : length (column_of rows first) ≡ length selection → AreGroupsMade total selection first others rows [] selection
  none_split same = record {
    firsts = [];
    rest_is = none_taken (column_of rows first) selection same;
    split_off = nothing_taken (selected_entries selection first rows);
    begin = All-nil (BeginsIn []);
    rise = λ i j d before within. absurd (omega arith);
    had = All-nil (Contains (selected_keys selection by rows));
    all = λ k d within there. absurd (omega (arith, there.1));
    answers = All-nil Answered;
  }

  module _ (kept : List Grouped) (rest : List Bool) (made : AreGroupsMade total selection first others rows kept rest) where
    -- the first entries that are left
    left : items_where_true rest (column_of rows first) ≡ filter (comes_after made.firsts) (selected_entries selection first rows)
    left =
        ap (λ bits. items_where_true bits (column_of rows first)) made.rest_is
        ∙ entries_passing (comes_after made.firsts) (column_of rows first) selection

    module _ (e : Option ℤ) (is_first : IsFirst (items_where_true rest (column_of rows first)) e) where
      first_left : IsFirst (filter (comes_after made.firsts) (selected_entries selection first rows)) e
      first_left = subst (λ entries. IsFirst entries e) left is_first

      after : comes_after made.firsts e ≡ true
      after = first_after (selected_entries selection first rows) made.firsts e made.split_off first_left

      -- the rows that are split off for this entry are all that have it
      pub taken_are : (split_off : List Bool) → split_off ≡ zip2 ◌&&◌ (map (is_entry e) (column_of rows first)) rest → split_off ≡ rows_with_entry selection first rows e
      taken_are split_off taken_is =
          taken_is ∙ ap (passing (is_entry e) (column_of rows first)) made.rest_is ∙ all_left made.firsts e after (column_of rows first) selection

      e_found : Contains (selected_entries selection first rows) e
      e_found =
          All-contains (Contains (selected_entries selection first rows)) (filter (comes_after made.firsts) (selected_entries selection first rows)) e
          (All-filter (comes_after made.firsts) (Contains (selected_entries selection first rows)) (selected_entries selection first rows) (All-contains_itself (selected_entries selection first rows)))
          first_left.member

      -- a row that has it has some others
      some_others : (y : List (Option ℤ)) × Contains (other_entries selection first others rows e) y
      some_others = others_of selection first others rows e e_found

      had_more : (some : List (List (Option ℤ))) → All (Contains (other_entries selection first others rows e)) some → All (Contains (selected_keys selection by rows)) (keys_of kept ++ keys_with e some)
      had_more some had =
          All-append (Contains (selected_keys selection by rows)) (keys_of kept) (keys_with e some) made.had
          (All-map (Contains (selected_keys selection by rows)) (λ y. e ∷ y) some
          (All-weaker (Contains (other_entries selection first others rows e)) There (λ y there. All-contains There (other_entries selection first others rows e) y (both_there selection first others rows e) there) some had))
        where
          There : List (Option ℤ) → Type 0
          There y = Contains (selected_keys selection by rows) (e ∷ y)

      -- more than so many further groups
      pub more_split : (most : ℕ) → AreMore most (other_entries selection first others rows e) → AreMore (length kept + most) (selected_keys selection by rows)
      more_split most more = record {
        some = keys_of kept ++ keys_with e more.some;
        rise = rise_more made.firsts e after (keys_of kept) made.begin made.rise more.some more.rise;
        had = had_more more.some more.had;
        many = omega (arith, more.many, length-append (keys_of kept) (keys_with e more.some), length-map kept (λ (group : Grouped). group.entries), length-map more.some (λ (y : List (Option ℤ)). e ∷ y));
      }

      -- one more would be too many
      pub one_more : AreMore (length kept + 0) (selected_keys selection by rows)
      one_more = more_split 0 (record {
        some = some_others.0 ∷ [];
        rise = λ i j d before within. absurd (omega arith);
        had = All-push (Contains (other_entries selection first others rows e)) [] some_others.0 (All-nil (Contains (other_entries selection first others rows e))) some_others.1;
        many = omega arith;
      })

      module _ (groups : List Grouped) (are : AreGroups total (rows_with_entry selection first rows e) others rows groups) where
        pub some_made : 0 < length groups
        some_made =
            let there = All-contains (Contains (keys_of groups)) (other_entries selection first others rows e) some_others.0 are.all some_others.1 in
            omega (arith, there.1, length-map groups (λ (group : Grouped). group.entries))

        keys_more : keys_of (kept ++ map (with_first_entry e) groups) ≡ keys_of kept ++ keys_with e (keys_of groups)
        keys_more =
            map-append (λ (group : Grouped). group.entries) kept (map (with_first_entry e) groups)
            ∙ ap (λ more. keys_of kept ++ more) (map-map (λ (group : Grouped). group.entries) (with_first_entry e) groups ∙ sym (map-map (λ y. e ∷ y) (λ (group : Grouped). group.entries) groups))

        -- the entries of each selected row of which the first is split off
        each_row : All (λ row. Contains (made.firsts ++ e ∷ []) (entry_in first row) → Contains (keys_of kept ++ keys_with e (keys_of groups)) (row_key by row)) (items_where_true selection rows)
        each_row =
            both (λ row. Contains made.firsts (entry_in first row) → Contains (keys_of kept) (row_key by row))
            (λ row. entry_in first row ≡ e → Contains (keys_of groups) (row_key others row))
            (λ row. Contains (made.firsts ++ e ∷ []) (entry_in first row) → Contains (keys_of kept ++ keys_with e (keys_of groups)) (row_key by row))
            (λ row old new there. elim (Contains-push_cases made.firsts e (entry_in first row) there) [
              | inl before ↦ Contains-append_left (keys_of kept) (keys_with e (keys_of groups)) (row_key by row) (old before)
              | inr is ↦ Contains-append_right (keys_of kept) (keys_with e (keys_of groups)) (row_key by row)
                  (subst (λ x. Contains (keys_with e (keys_of groups)) (x ∷ row_key others row)) is (key_with e (row_key others row) (keys_of groups) (new (sym is))))
            ])
            (items_where_true selection rows) made.all (of_others selection first others rows e (Contains (keys_of groups)) are.all)

        pub one_split : (split_off behind : List Bool) → split_off ≡ zip2 ◌&&◌ (map (is_entry e) (column_of rows first)) rest → behind ≡ zip2 without rest split_off
            → AreGroupsMade total selection first others rows (kept ++ map (with_first_entry e) groups) behind
        one_split split_off behind taken_is behind_is = record {
          firsts = made.firsts ++ e ∷ [];
          rest_is =
              behind_is ∙ ap₂ (zip2 without) made.rest_is (taken_is ∙ ap (passing (is_entry e) (column_of rows first)) made.rest_is)
              ∙ rows_left made.firsts e (column_of rows first) selection
              (subst (All (λ x. IsTrue (not (comes_before x e)))) (ap (λ bits. items_where_true bits (column_of rows first)) made.rest_is) is_first.none_before);
          split_off = one_taken (selected_entries selection first rows) made.firsts e made.split_off first_left;
          begin = subst (All (BeginsIn (made.firsts ++ e ∷ []))) (sym keys_more)
              (All-append (BeginsIn (made.firsts ++ e ∷ [])) (keys_of kept) (keys_with e (keys_of groups))
              (All-weaker (BeginsIn made.firsts) (BeginsIn (made.firsts ++ e ∷ [])) begins_more (keys_of kept) made.begin)
              (All-map (BeginsIn (made.firsts ++ e ∷ [])) (λ y. e ∷ y) (keys_of groups) (λ k d within. Contains-push made.firsts e)));
          rise = subst KeysRise (sym keys_more) (rise_more made.firsts e after (keys_of kept) made.begin made.rise (keys_of groups) are.rise);
          had = subst (All (Contains (selected_keys selection by rows))) (sym keys_more) (had_more (keys_of groups) are.had);
          all = subst (λ keys. All (λ row. Contains (made.firsts ++ e ∷ []) (entry_in first row) → Contains keys (row_key by row)) (items_where_true selection rows)) (sym keys_more) each_row;
          answers = All-append Answered kept (map (with_first_entry e) groups) made.answers (All-map Answered (with_first_entry e) groups are.answers);
        }
          where
            begins_more : (entries : List (Option ℤ)) → BeginsIn made.firsts entries → BeginsIn (made.firsts ++ e ∷ []) entries
            begins_more [] begins = begins
            begins_more (x ∷ entries) begins = Contains-append_left made.firsts (e ∷ []) x begins

    -- nothing is left
    pub all_split : items_where_true rest (column_of rows first) ≡ [] → AreGroups total selection by rows kept
    all_split none = record {
      rise = made.rise;
      had = made.had;
      all = subst (All (Contains (keys_of kept))) (sym (keys_are selection first others rows))
          (All-map (Contains (keys_of kept)) (row_key by) (items_where_true selection rows)
          (both (λ row. Contains made.firsts (entry_in first row) → Contains (keys_of kept) (row_key by row)) (λ row. Contains made.firsts (entry_in first row))
          (λ row. Contains (keys_of kept) (row_key by row)) (λ row then_so there. then_so there) (items_where_true selection rows) made.all
          (unmapped (Contains made.firsts) (entry_in first) (items_where_true selection rows)
          (subst (All (Contains made.firsts)) (firsts_are selection first others rows) (all_taken (selected_entries selection first rows) made.firsts made.split_off (sym left ∙ none))))));
      answers = made.answers;
    }
