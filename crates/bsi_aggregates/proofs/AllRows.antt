-- All rows of a selection as one group, by no column.
use Rattle.std.proofs.Common.{◌≡◌, ◌<◌, ℕ, Bool, List, [], ◌∷◌, Option, ℤ, All, Contains, length, map, refl, sym, subst, ◌∙◌, arith}
use Rattle.std.specs.Prelude.{count_by}
use Rattle.std.specs.List.{items_where_true}
use Rattle.std.proofs.lemmas.List.{length-map}
use Rattle.std.proofs.lemmas.List.Elements.{All-cons, All-get_or, All-map, All-nil, All-weaker, Contains-get_or, Contains-push}
use Rattle.bsi_rows.specs.Rows.{SourcedRow}
use Rattle.bsi_rows.specs.declared.query.Answer.{Answer}
use Rattle.bsi_rows.specs.declared.query.Total.{Total}
use Rattle.bsi_table.specs.Totals.{IsTotalAt}
use Rattle.bsi_aggregates.specs.Groups.{row_key, rows_with, selected_keys, AreGroups, AreMore, Grouped}
use Rattle.bsi_aggregates.proofs.FirstEntries.{entries_counted}
use Rattle.bsi_aggregates.proofs.SplitRows.{found_map}

module _ (total : Total) (selection : List Bool) (rows : List SourcedRow) (same : length selection ≡ length rows) where
  keys : List (List (Option ℤ))
  keys = selected_keys selection [] rows

  counted : length (selected_keys selection [] rows) ≡ count_by (λ b. b) selection
  counted = entries_counted selection (map (row_key []) rows) (length-map rows (row_key []) ∙ sym same)

  each_none : All (λ entries. entries ≡ []) (selected_keys selection [] rows)
  each_none =
      subst (All (λ entries. entries ≡ [])) (sym (found_map (row_key []) selection rows))
      (All-map (λ entries. entries ≡ []) (row_key []) (items_where_true selection rows) (λ k d within. refl))

  pub no_rows : count_by (λ b. b) selection ≡ 0 → AreGroups total selection [] rows []
  no_rows none = record {
    rise = λ i j d before within. absurd (omega arith);
    had = All-nil (Contains (selected_keys selection [] rows));
    all = λ k d within. absurd (omega (arith, within, counted, none));
    answers = All-nil (λ group. IsTotalAt total (rows_with selection [] rows group.entries) rows group.answer);
  }

  module _ (some : 0 < count_by (λ b. b) selection) where
    there : Contains (selected_keys selection [] rows) []
    there =
        subst (Contains (selected_keys selection [] rows)) (All-get_or (λ entries. entries ≡ []) (selected_keys selection [] rows) 0 [] (omega (arith, some, counted)) each_none)
        (Contains-get_or (selected_keys selection [] rows) 0 [] (omega (arith, some, counted)))

    had_one : All (Contains (selected_keys selection [] rows)) ([] ∷ [])
    had_one = All-cons (Contains (selected_keys selection [] rows)) [] [] there (All-nil (Contains (selected_keys selection [] rows)))

    pub one_more_than_none : AreMore 0 (selected_keys selection [] rows)
    one_more_than_none = record {
      some = [] ∷ [];
      rise = λ i j d before within. absurd (omega arith);
      had = had_one;
      many = omega arith;
    }

    pub all_rows : (answer : Answer) → IsTotalAt total selection rows answer → AreGroups total selection [] rows (record { entries = []; answer = answer } ∷ [])
    all_rows answer is = record {
      rise = λ i j d before within. absurd (omega arith);
      had = had_one;
      all = All-weaker (λ entries. entries ≡ []) (Contains ([] ∷ [])) (λ entries none. subst (Contains ([] ∷ [])) (sym none) (Contains-push [] [])) (selected_keys selection [] rows) each_none;
      answers = All-cons (λ group. IsTotalAt total (rows_with selection [] rows group.entries) rows group.answer) (record { entries = []; answer = answer }) [] is
          (All-nil (λ group. IsTotalAt total (rows_with selection [] rows group.entries) rows group.answer));
    }
