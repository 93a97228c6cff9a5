-- The groups that were split off a selection, and after them those of what is left of it.
use Rattle.std.proofs.Common.{Result, Ok, Err, ◌≡◌, ℕ, suc, ◌+◌, Bool, true, false, List, [], ◌∷◌, ◌++◌, Option, ℤ, All, Contains, length, get_or, inl, inr, ap, ap₂, sym, subst, ◌∙◌, arith, append_assoc, length-append}
use Rattle.std.specs.Prelude.{IfErr, ◌&&◌, IsTrue}
use Rattle.std.specs.Result.{IsErr, IsErrAnd}
use Rattle.std.proofs.lemmas.Bool.{cases_Bool}
use Rattle.std.proofs.lemmas.List.{append-nil, length-map, map-append}
use Rattle.std.proofs.lemmas.List.Elements.{All-append, All-contains, All-contains_itself, All-filter, All-weaker, Contains-append_left, Contains-append_right, filter_passes}
use Rattle.std.proofs.lemmas.List.Quantifiers.{all_pairs_push}
use Rattle.std.proofs.lemmas.List.Sums.{AllPass-from_list_all}
use Rattle.bsi_rows.specs.Rows.{column_of, SourcedRow}
use Rattle.bsi_rows.specs.declared.query.Total.{Total}
use Rattle.bsi_table.specs.Totals.{IsTotalAt}
use Rattle.bsi_aggregates.specs.Entries.{comes_before, is_entry}
use Rattle.bsi_aggregates.specs.ColumnGroups.{column_keys_of, rows_with_entry, selected_entries, AreColumnGroups, AreMoreEntries, EntriesRise}
use Rattle.bsi_aggregates.specs.declared.column_groups.ColumnGroup.{ColumnGroup}
use Rattle.bsi_aggregates.specs.declared.grouping.GroupError.{GroupError}
use Rattle.bsi_aggregates.proofs.Grouped.{left, AreMade}
use Rattle.bsi_aggregates.proofs.Order.{after_more, comes_after}
use Rattle.bsi_aggregates.proofs.SplitRows.{both, unmapped}
use Rattle.bsi_aggregates.proofs.Remaining.{all_left, passing, unfiltered}

-- entries that rise, each of which comes after those before
rise_on : (keys others : List (Option ℤ)) → EntriesRise keys → EntriesRise others → All (λ x. comes_after keys x ≡ true) others → EntriesRise (keys ++ others)
rise_on keys [] rise later after = subst EntriesRise (sym (append-nil keys)) rise
rise_on keys (x ∷ others) rise later after =
    subst EntriesRise (append_assoc keys (x ∷ []) others)
    (rise_on (keys ++ x ∷ []) others
    (all_pairs_push (λ earlier later. IsTrue (comes_before earlier later)) keys x rise (λ k d within. AllPass-from_list_all (λ key. comes_before key x) keys (after 0 x (omega arith)) k d within))
    (λ i j d before within. later (suc i) (suc j) d (omega arith) (omega arith))
    (λ j d within. after_more keys x (get_or others j d) ∙ ap₂ ◌&&◌ (after (suc j) d (omega arith)) (later 0 (suc j) d (omega arith) (omega arith))))

module _ (total : Total) (selection : List Bool) (by : ℕ) (rows : List SourcedRow) (groups : List ColumnGroup) (rest : List Bool) (made : AreMade total selection by rows groups rest) where
  -- what is left comes after the groups that were split off
  all_after : All (λ x. comes_after (column_keys_of groups) x ≡ true) (selected_entries rest by rows)
  all_after = subst (All (λ x. comes_after (column_keys_of groups) x ≡ true)) (sym (left total selection by rows groups rest made)) (filter_passes (comes_after (column_keys_of groups)) (selected_entries selection by rows))

  -- and is among what was found
  all_found : All (Contains (selected_entries selection by rows)) (selected_entries rest by rows)
  all_found =
      subst (All (Contains (selected_entries selection by rows))) (sym (left total selection by rows groups rest made))
      (All-filter (comes_after (column_keys_of groups)) (Contains (selected_entries selection by rows)) (selected_entries selection by rows) (All-contains_itself (selected_entries selection by rows)))

  module _ (others : List (Option ℤ)) (had : All (Contains (selected_entries rest by rows)) others) where
    others_after : All (λ x. comes_after (column_keys_of groups) x ≡ true) others
    others_after = All-weaker (Contains (selected_entries rest by rows)) (λ x. comes_after (column_keys_of groups) x ≡ true) (λ x there. All-contains (λ x. comes_after (column_keys_of groups) x ≡ true) (selected_entries rest by rows) x all_after there) others had

    had_on : All (Contains (selected_entries selection by rows)) (column_keys_of groups ++ others)
    had_on =
        All-append (Contains (selected_entries selection by rows)) (column_keys_of groups) others made.split_off.had
        (All-weaker (Contains (selected_entries rest by rows)) (Contains (selected_entries selection by rows)) (λ x there. All-contains (Contains (selected_entries selection by rows)) (selected_entries rest by rows) x all_found there) others had)

  -- too many groups of what is left are too many of all
  pub more_on : (most : ℕ) → AreMoreEntries most (selected_entries rest by rows) → AreMoreEntries (length groups + most) (selected_entries selection by rows)
  more_on most more = record {
    some = column_keys_of groups ++ more.some;
    rise = rise_on (column_keys_of groups) more.some made.split_off.rise more.rise (others_after more.some more.had);
    had = had_on more.some more.had;
    many = omega (arith, more.many, length-append (column_keys_of groups) more.some, length-map groups (λ (group : ColumnGroup). group.entry));
  }

  module _ (others : List ColumnGroup) (are : AreColumnGroups total rest by rows others) where
    keys_on : column_keys_of (groups ++ others) ≡ column_keys_of groups ++ column_keys_of others
    keys_on = map-append (λ group. group.entry) groups others

    -- the rows of an entry that is left are all left
    same_rows : (e : Option ℤ) → comes_after (column_keys_of groups) e ≡ true → rows_with_entry rest by rows e ≡ rows_with_entry selection by rows e
    same_rows e after = ap (passing (is_entry e) (column_of rows by)) made.rest_is ∙ all_left (column_keys_of groups) e after (column_of rows by) selection

    all_on : All (Contains (column_keys_of groups ++ column_keys_of others)) (selected_entries selection by rows)
    all_on = λ k d within. one _ (made.split_off.all k d within) (unfiltered (Contains (column_keys_of others)) (comes_after (column_keys_of groups)) (selected_entries selection by rows) (subst (All (Contains (column_keys_of others))) (left total selection by rows groups rest made) are.all) k d within)
      where
        one : (x : Option ℤ) → (comes_after (column_keys_of groups) x ≡ false → Contains (column_keys_of groups) x) → (comes_after (column_keys_of groups) x ≡ true → Contains (column_keys_of others) x)
            → Contains (column_keys_of groups ++ column_keys_of others) x
        one x split_off later = elim (cases_Bool (comes_after (column_keys_of groups) x)) [
          | inl after ↦ Contains-append_right (column_keys_of groups) (column_keys_of others) x (later after)
          | inr before ↦ Contains-append_left (column_keys_of groups) (column_keys_of others) x (split_off before)
        ]

    -- all groups
    pub joined : AreColumnGroups total selection by rows (groups ++ others)
    joined = record {
      rise = subst EntriesRise (sym keys_on) (rise_on (column_keys_of groups) (column_keys_of others) made.split_off.rise are.rise (others_after (column_keys_of others) are.had));
      had = subst (All (Contains (selected_entries selection by rows))) (sym keys_on) (had_on (column_keys_of others) are.had);
      all = subst (λ keys. All (Contains keys) (selected_entries selection by rows)) (sym keys_on) all_on;
      answers = All-append (λ group. IsTotalAt total (rows_with_entry selection by rows group.entry) rows group.answer) groups others made.answers
          (both (λ group. IsTotalAt total (rows_with_entry rest by rows group.entry) rows group.answer) (λ group. comes_after (column_keys_of groups) group.entry ≡ true)
          (λ group. IsTotalAt total (rows_with_entry selection by rows group.entry) rows group.answer)
          (λ group is after. subst (λ bits. IsTotalAt total bits rows group.answer) (same_rows group.entry after) is) others are.answers
          (unmapped (λ x. comes_after (column_keys_of groups) x ≡ true) (λ group. group.entry) others (others_after (column_keys_of others) are.had)));
    }

-- a refusal that is passed on
pub passed_on : {T : Type 0} (r : Result T GroupError) (e : GroupError) (P : GroupError → Type 0) → IsErr r × IsErrAnd r (λ given. given ≡ e) → P e → IfErr r P
passed_on (Ok x) e P is p = tt
passed_on (Err x) e P is p = subst P (sym is.1) p
