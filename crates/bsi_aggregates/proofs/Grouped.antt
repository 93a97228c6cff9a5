-- The groups that were made so far, and what is left of the selection.
use Rattle.std.proofs.Common.{◌≡◌, ℕ, Bool, List, [], ◌∷◌, ◌++◌, Option, ℤ, All, length, map, filter, ap, ap₂, sym, subst, ◌∙◌, arith, length-append}
use Rattle.std.specs.Prelude.{◌&&◌, not, IsTrue}
use Rattle.std.specs.List.{items_where_true}
use Rattle.std.specs.Simd.Lanes.{zip2}
use Rattle.std.proofs.lemmas.List.{length-map, map-append}
use Rattle.std.proofs.lemmas.List.Elements.{All-nil, All-push}
use Rattle.bsi_bits.specs.BitList.{without}
use Rattle.bsi_rows.specs.Rows.{column_of, SourcedRow}
use Rattle.bsi_rows.specs.declared.query.Answer.{Answer}
use Rattle.bsi_rows.specs.declared.query.Total.{Total}
use Rattle.bsi_table.specs.Totals.{IsTotalAt}
use Rattle.bsi_aggregates.specs.Entries.{comes_before, is_entry, IsFirst}
use Rattle.bsi_aggregates.specs.ColumnGroups.{column_keys_of, rows_with_entry, selected_entries, AreColumnGroups, AreMoreEntries}
use Rattle.bsi_aggregates.specs.declared.column_groups.ColumnGroup.{ColumnGroup}
use Rattle.bsi_aggregates.proofs.Order.{comes_after}
use Rattle.bsi_aggregates.proofs.Remaining.{all_left, all_taken, entries_passing, first_after, none_taken, nothing_taken, one_taken, passing, rows_left, AreTaken}

pub record AreMade (total : Total) (selection : List Bool) (by : ℕ) (rows : List SourcedRow) (groups : List ColumnGroup) (rest : List Bool) : Type 0 where
  pub rest_is : rest ≡ passing (comes_after (column_keys_of groups)) (column_of rows by) selection
  pub split_off : AreTaken (selected_entries selection by rows) (column_keys_of groups)
  pub answers : All (λ group. IsTotalAt total (rows_with_entry selection by rows group.entry) rows group.answer) groups

module _ (total : Total) (selection : List Bool) (by : ℕ) (rows : List SourcedRow) where
  pub none_made : length (column_of rows by) ≡ length selection → AreMade total selection by rows [] selection
  none_made same = record {
    rest_is = none_taken (column_of rows by) selection same;
    split_off = nothing_taken (selected_entries selection by rows);
    answers = All-nil (λ group. IsTotalAt total (rows_with_entry selection by rows group.entry) rows group.answer);
  }

  module _ (groups : List ColumnGroup) (rest : List Bool) (made : AreMade total selection by rows groups rest) where
    -- the entries that are left
    pub left : items_where_true rest (column_of rows by) ≡ filter (comes_after (column_keys_of groups)) (selected_entries selection by rows)
    left =
        ap (λ bits. items_where_true bits (column_of rows by)) made.rest_is
        ∙ entries_passing (comes_after (column_keys_of groups)) (column_of rows by) selection

    keys_more : (group : ColumnGroup) → column_keys_of (groups ++ group ∷ []) ≡ column_keys_of groups ++ group.entry ∷ []
    keys_more group = map-append (λ group. group.entry) groups (group ∷ [])

    module _ (e : Option ℤ) (first : IsFirst (items_where_true rest (column_of rows by)) e) where
      first_left : IsFirst (filter (comes_after (column_keys_of groups)) (selected_entries selection by rows)) e
      first_left = subst (λ entries. IsFirst entries e) left first

      pub one_made : (answer : Answer) (split_off behind : List Bool) → split_off ≡ zip2 ◌&&◌ (map (is_entry e) (column_of rows by)) rest
          → behind ≡ zip2 without rest split_off → IsTotalAt total split_off rows answer
          → AreMade total selection by rows (groups ++ (record { entry = e; answer = answer }) ∷ []) behind
      one_made answer split_off behind taken_is behind_is is = record {
        rest_is =
            behind_is ∙ ap₂ (zip2 without) made.rest_is (taken_is ∙ ap (passing (is_entry e) (column_of rows by)) made.rest_is)
            ∙ rows_left (column_keys_of groups) e (column_of rows by) selection (subst (All (λ x. IsTrue (not (comes_before x e)))) (ap (λ bits. items_where_true bits (column_of rows by)) made.rest_is) first.none_before)
            ∙ ap (λ keys. passing (comes_after keys) (column_of rows by) selection) (sym (keys_more group));
        split_off = subst (AreTaken (selected_entries selection by rows)) (sym (keys_more group)) (one_taken (selected_entries selection by rows) (column_keys_of groups) e made.split_off first_left);
        answers = All-push (λ group. IsTotalAt total (rows_with_entry selection by rows group.entry) rows group.answer) groups group made.answers
            (subst (λ bits. IsTotalAt total bits rows answer) same is);
      }
        where
          group : ColumnGroup
          group = record { entry = e; answer = answer }

          same : split_off ≡ rows_with_entry selection by rows e
          same =
              taken_is ∙ ap (passing (is_entry e) (column_of rows by)) made.rest_is
              ∙ all_left (column_keys_of groups) e (first_after (selected_entries selection by rows) (column_keys_of groups) e made.split_off first_left) (column_of rows by) selection

      -- one more would be too many
      pub more : AreMoreEntries (length groups) (selected_entries selection by rows)
      more =
          let split_off = one_taken (selected_entries selection by rows) (column_keys_of groups) e made.split_off first_left in record {
            some = column_keys_of groups ++ e ∷ [];
            rise = split_off.rise;
            had = split_off.had;
            many = omega (arith, length-append (column_keys_of groups) (e ∷ []), length-map groups (λ (group : ColumnGroup). group.entry));
          }

    -- nothing is left
    pub all_made : items_where_true rest (column_of rows by) ≡ [] → AreColumnGroups total selection by rows groups
    all_made none = record {
      rise = made.split_off.rise;
      had = made.split_off.had;
      all = all_taken (selected_entries selection by rows) (column_keys_of groups) made.split_off (sym left ∙ none);
      answers = made.answers;
    }
