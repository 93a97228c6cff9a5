-- Groups by one column are groups by a list of it.
use Rattle.std.proofs.Common.{◌≡◌, ◌<◌, ℕ, Bool, List, [], ◌∷◌, None, Option, ℤ, All, Contains, length, map, ap, sym, subst, ◌∙◌, arith}
use Rattle.std.specs.Prelude.{◌&&◌, ◌||◌, false, IsTrue, slice_index_or}
use Rattle.std.specs.List.{AllPairs}
use Rattle.std.proofs.lemmas.List.{length-map}
use Rattle.std.proofs.lemmas.Simd.{map-map}
use Rattle.std.proofs.lemmas.List.Elements.{All-contains, All-contains_itself, All-map, All-weaker}
use Rattle.bsi_rows.specs.Rows.{column_of, SourcedRow}
use Rattle.bsi_rows.specs.declared.query.Total.{Total}
use Rattle.bsi_table.specs.Totals.{IsTotalAt}
use Rattle.bsi_aggregates.specs.ColumnGroups.{column_keys_of, selected_entries, AreColumnGroups, AreMoreEntries, EntriesRise, IsRefusedColumn}
use Rattle.bsi_aggregates.specs.Entries.{comes_before, is_entry}
use Rattle.bsi_aggregates.specs.Groups.{all_come_before, as_group, keys_of, row_key, rows_with, selected_keys, AreGroups, AreMore, Grouped, IsRefusedOver, KeysRise}
use Rattle.bsi_aggregates.specs.declared.column_groups.ColumnGroup.{ColumnGroup}
use Rattle.bsi_aggregates.specs.declared.grouping.GroupError.{GroupError}
use Rattle.bsi_aggregates.specs.declared.grouping.GroupError.TheVariants.{BadColumn, TooMany, NoMemory}
use Rattle.bsi_aggregates.proofs.GroupOrder.{all_pairs_map}
use Rattle.bsi_aggregates.proofs.SplitRows.{entry_in, found_map, unmapped}

-- entries that are one
abbrev alone : Option ℤ → List (Option ℤ)
alone e = e ∷ []

-- what is among some is so behind a map
map_contains : {X Y : Type 0} (f : X → Y) (xs : List X) (x : X) → Contains xs x → Contains (map f xs) (f x)
map_contains f xs x there =
    All-contains (λ x. Contains (map f xs) (f x)) xs x (unmapped (Contains (map f xs)) f xs (All-contains_itself (map f xs))) there

all_alone : (entries others : List (Option ℤ)) → All (Contains entries) others → All (Contains (map alone entries)) (map alone others)
all_alone entries others all =
    All-map (Contains (map alone entries)) alone others
    (All-weaker (Contains entries) (λ e. Contains (map alone entries) (alone e)) (λ e there. map_contains alone entries e there) others all)

rise_alone : (entries : List (Option ℤ)) → EntriesRise entries → KeysRise (map alone entries)
rise_alone entries rise =
    all_pairs_map (λ xs ys. IsTrue (all_come_before xs ys)) alone None entries
    (λ i j d before within. ap (λ b. b || (is_entry (slice_index_or entries i d) (slice_index_or entries j d) && false)) (rise i j d before within))

keys_alone : (groups : List ColumnGroup) → keys_of (map as_group groups) ≡ map alone (column_keys_of groups)
keys_alone groups =
    map-map (λ (group : Grouped). group.entries) as_group groups ∙ sym (map-map alone (λ (group : ColumnGroup). group.entry) groups)

module _ (selection : List Bool) (c : ℕ) (rows : List SourcedRow) where
  entries_alone : selected_keys selection (c ∷ []) rows ≡ map alone (selected_entries selection c rows)
  entries_alone = found_map (row_key (c ∷ [])) selection rows ∙ sym (map-map alone (entry_in c) _) ∙ ap (map alone) (sym (found_map (entry_in c) selection rows))

  pub are_alone : (total : Total) (groups : List ColumnGroup) → AreColumnGroups total selection c rows groups → AreGroups total selection (c ∷ []) rows (map as_group groups)
  are_alone total groups are = record {
    rise = subst KeysRise (sym (keys_alone groups)) (rise_alone (column_keys_of groups) are.rise);
    had = all_in (sym entries_alone) (sym (keys_alone groups)) (all_alone (selected_entries selection c rows) (column_keys_of groups) are.had);
    all = all_in (sym (keys_alone groups)) (sym entries_alone) (all_alone (column_keys_of groups) (selected_entries selection c rows) are.all);
    answers = All-map (λ group. IsTotalAt total (rows_with selection (c ∷ []) rows group.entries) rows group.answer) as_group groups are.answers;
  }
    where
      all_in : {xs xs' ys ys' : List (List (Option ℤ))} → xs ≡ xs' → ys ≡ ys' → All (Contains xs) ys → All (Contains xs') ys'
      all_in {ys' = ys'} same too all = subst (λ zs. All (Contains zs) ys') same (subst (All (Contains _)) too all)

  -- and why there are none
  pub refused_alone : (most : ℕ) (why : GroupError) → IsRefusedColumn selection c rows most why → IsRefusedOver selection (c ∷ []) rows most why
  refused_alone most (BadColumn b) never = never
  refused_alone most TooMany more = record {
    some = map alone more.some;
    rise = rise_alone more.some more.rise;
    had = subst (λ entries. All (Contains entries) (map alone more.some)) (sym entries_alone) (all_alone (selected_entries selection c rows) more.some more.had);
    many = omega (arith, more.many, length-map more.some alone);
  }
  refused_alone most NoMemory told = tt
