-- A record whose fields are good is good, if the titles of the header are those of the columns, and differ; and the header is one.
use Rattle.std.proofs.Common.{◌≡◌, ℕ, zero, suc, ◌+◌, ◌<◌, All, Bool, true, false, not, ◌&&◌, if◌then◌else◌, List, [], ◌∷◌, length, map, get_or, Option, Some, None, option_map, option_and_then, Result, Ok, Err, IfOk, ℤ, refl, sym, ap, ap₂, subst, ◌∙◌, arith, eq-eqb}
use Rattle.std.specs.Prelude.{IsSome, nat_eq}
use Rattle.std.specs.List.{list_all}
use Rattle.std.specs.Str.{bytes_eq}
use Rattle.std.proofs.lemmas.List.{length-map}
use Rattle.std.proofs.lemmas.List.Sums.{prefix_len_is}
use Rattle.std.proofs.lemmas.Slice.Eq.{bytes_eq-Decides}
use Rattle.bsi_schema.specs.Columns.{column_at, entry_at, fits, is_accepted_by, NamedColumn}
use Rattle.bsi_schema.proofs.Fitting.{fits-each}
use Rattle.bsi_rows.specs.Rows.{Entries}
use Rattle.bsi_rows.specs.Fields.{Field}
use Rattle.bsi_inference.specs.ColumnCandidates.{Accepts}
use Rattle.bsi_inference.specs.declared.candidates.Candidates.{Candidates}
use Rattle.bsi_input.specs.Formats.{fields_at, fitting, good_row, in_order}
use Rattle.bsi_input.specs.RowFiles.{field_index}
use Rattle.bsi_logical.specs.HeaderTitles.{titles_of}
use Rattle.bsi_logical.specs.Logical.{Logical}
use Rattle.bsi_logical.specs.LogicalRows.{accepted_entry, entries_from, entry_of, has_titles, is_titled_once, logical_format}
use Rattle.bsi_logical.proofs.Titling.{length-titles_of}
use Rattle.bsi_survey.specs.Choices.{chosen_fields}
use Rattle.bsi_survey.specs.Looking.{AcceptsRecord}
use Rattle.bsi_survey.specs.Made.{IsGoodField}
use Rattle.bsi_survey.specs.Titles.{AreDistinct}
use Rattle.bsi_survey.specs.declared.choice.Choice.{Choice}
use Rattle.bsi_survey.proofs.Distinct.{differs, titled_once}
use Rattle.bsi_survey.proofs.Schemas.{at_of}

-- ---- distinct titles

module _ (titles : List Field) (distinct : AreDistinct titles) where
  index_is : (c : ℕ) → c < length titles → field_index titles (get_or titles c []) ≡ c
  index_is c within =
      prefix_len_is (λ (title : Field). not (bytes_eq title (get_or titles c []))) titles c [] (omega (arith, within))
      (λ k before. ap not (differs titles distinct c k within (omega (arith, before, within)) (λ same. omega (arith, before, same))))
      (λ there. ap not ((bytes_eq-Decides (get_or titles c []) (get_or titles c [])).1 refl))

  -- so the fields of the columns are those at their indexes
  in_header : (fields : List Field) (chosen : List ℕ) → ((i : ℕ) → i < length chosen → get_or chosen i 0 < length titles)
      → fields_at (map (field_index titles) (fields_at chosen titles)) fields ≡ fields_at chosen fields
  in_header fields [] within = refl
  in_header fields (k ∷ ks) within =
      ap₂ (λ (f : Field) (fs : List Field). f ∷ fs) (ap (λ (n : ℕ). get_or fields n []) (index_is k (within 0 (omega arith))))
      (in_header fields ks (λ i low. within (suc i) (omega (arith, low))))

  -- and each of their titles stands once
  chosen_once : (chosen : List ℕ) → ((i : ℕ) → i < length chosen → get_or chosen i 0 < length titles) → list_all (is_titled_once titles) (fields_at chosen titles) ≡ true
  chosen_once [] within = refl
  chosen_once (k ∷ ks) within =
      ap₂ (λ (one more : Bool). one && more) (titled_once titles distinct k (within 0 (omega arith))) (chosen_once ks (λ i low. within (suc i) (omega (arith, low))))

-- ---- good fields

pub record IsEntryOf (column : NamedColumn) (found : Option (Option ℤ)) : Type 0 where
  pub entry : Option ℤ
  pub is : found ≡ Some entry
  pub accepted : is_accepted_by column entry ≡ true

entry_found : (column : NamedColumn) (found : Option (Option ℤ)) → IsSome (accepted_entry column found) → IsEntryOf column found
entry_found column None good = absurd (cc)
entry_found column (Some entry) good = by (is_accepted_by column entry) refl good
  where
    by : (b : Bool) → is_accepted_by column entry ≡ b → IsSome (if b then Some entry else None) → IsEntryOf column (Some entry)
    by true is good = record { entry = entry; is = refl; accepted = is }
    by false is good = absurd (cc)

-- the entries of fields, which the columns from one on accept
pub record AreEntriesFrom (l : Logical) (k : ℕ) (fields : List Field) : Type 0 where
  pub entries : Entries
  pub are : entries_from l k fields ≡ Some entries
  pub len : length entries ≡ length fields
  pub accepted : (j : ℕ) → j < length fields → is_accepted_by (column_at l.schema.columns (k + j)) (entry_at entries j) ≡ true

entries_of : (l : Logical) (k : ℕ) (fields : List Field) → ((j : ℕ) → j < length fields → IsGoodField l (k + j) (get_or fields j [])) → AreEntriesFrom l k fields
unfolding entries_from
entries_of l k [] good = record { entries = []; are = refl; len = refl; accepted = λ j within. absurd (omega (arith, within)) }
entries_of l k (field ∷ fields) good =
    let here : IsGoodField l k field = subst (λ (n : ℕ). IsGoodField l n field) (add_none k) (good 0 (omega arith)) in
    let first = entry_found (column_at l.schema.columns k) (entry_of l k field) here in
    let rest = entries_of l (k + 1) fields (λ j within. subst (λ (n : ℕ). IsGoodField l n (get_or fields j [])) (add_one k j) (good (suc j) (omega (arith, within)))) in
    record {
      entries = first.entry ∷ rest.entries;
      are = ap (λ (o : Option (Option ℤ)). option_and_then (λ entry. option_map (λ entries. entry ∷ entries) (entries_from l (k + 1) fields)) o) first.is
          ∙ ap (option_map (λ entries. first.entry ∷ entries)) rest.are;
      len = ap suc rest.len;
      accepted = each k field fields first.entry rest.entries first.accepted rest.accepted;
    }
  where
    add_none : (n : ℕ) → n + 0 ≡ n
    add_none n = omega arith

    add_one : (n j : ℕ) → n + suc j ≡ (n + 1) + j
    add_one n j = omega arith

    each : (n : ℕ) (f : Field) (fs : List Field) (entry : Option ℤ) (entries : Entries) → is_accepted_by (column_at l.schema.columns n) entry ≡ true
        → ((j : ℕ) → j < length fs → is_accepted_by (column_at l.schema.columns ((n + 1) + j)) (entry_at entries j) ≡ true)
        → (j : ℕ) → j < length (f ∷ fs) → is_accepted_by (column_at l.schema.columns (n + j)) (entry_at (entry ∷ entries) j) ≡ true
    each n f fs entry entries one more zero within = ap (λ (m : ℕ). is_accepted_by (column_at l.schema.columns m) entry) (add_none n) ∙ one
    each n f fs entry entries one more (suc j) within =
        ap (λ (m : ℕ). is_accepted_by (column_at l.schema.columns m) (entry_at entries j)) (add_one n j) ∙ more j (omega (arith, within))

-- ---- good records

module _ (header : List Field) (choice : Choice) (distinct : AreDistinct (titles_of header)) (chosen : All (λ (k : ℕ). k < choice.many) choice.indexes.items)
    (many : choice.many ≡ length header) where
  places : (i : ℕ) → i < length choice.indexes.items → get_or choice.indexes.items i 0 < length (titles_of header)
  places i low = let is = chosen i 0 low in omega (arith, is, many, length-titles_of header)

  module _ (l : Logical) (titles : l.titles ≡ chosen_fields choice (titles_of header)) (columns : length l.schema.columns ≡ length choice.indexes.items) where
    row_good : (fields : List Field) → length fields ≡ length header
        → ((j : ℕ) → j < length choice.indexes.items → IsGoodField l j (get_or (chosen_fields choice fields) j []))
        → IsSome (good_row (logical_format l) header fields)
    row_good fields long good =
        let own = chosen_fields choice fields in
        let same : length own ≡ length choice.indexes.items = length-map choice.indexes.items (λ (index : ℕ). get_or fields index []) in
        let from = entries_of l 0 own (λ j within. subst (λ (n : ℕ). IsGoodField l n (get_or own j [])) (none_added j) (good j (omega (arith, within, same)))) in
        let fit : fits l.schema.columns from.entries ≡ true = fits-each l.schema.columns from.entries (from.len ∙ same ∙ sym columns)
        (λ c within. ap (λ (n : ℕ). is_accepted_by (column_at l.schema.columns n) (entry_at from.entries c)) (none_added c) ∙ from.accepted c (omega (arith, within, same, columns))) in
        let order : in_order (logical_format l) header fields ≡ own =
        ap (λ (ts : List Field). fields_at (map (field_index (titles_of header)) ts) fields) titles
        ∙ in_header (titles_of header) distinct fields choice.indexes.items places in
        let entries : entries_from l 0 (in_order (logical_format l) header fields) ≡ Some from.entries = ap (entries_from l 0) order ∙ from.are in
        let whole : nat_eq (length fields) (length header) ≡ true = eq-eqb (length fields) (length header) long in
        let fitted : fitting l.schema (entries_from l 0 (in_order (logical_format l) header fields)) ≡ Some from.entries =
        ap (fitting l.schema) entries ∙ ap (λ b. if b then Some from.entries else None) fit in
        subst IsSome (sym (ap (λ b. if b then fitting l.schema (entries_from l 0 (in_order (logical_format l) header fields)) else None) whole ∙ fitted)) refl
      where
        none_added : (j : ℕ) → j ≡ 0 + j
        none_added j = omega arith

    header_good : has_titles l header ≡ true
    header_good = ap (list_all (is_titled_once (titles_of header))) titles ∙ chosen_once (titles_of header) distinct choice.indexes.items places

  -- the schema of candidates
  module _ {E : Type 0} (r : Result Logical E) (titles : IfOk r (λ l. l.titles ≡ chosen_fields choice (titles_of header))) (cands : List Candidates)
      (each : length cands ≡ length choice.indexes.items) (columns : IfOk r (λ l. length l.schema.columns ≡ length cands)) where
    pub header_accepted : IfOk r (λ l. has_titles l header ≡ true)
    header_accepted = by r titles columns
      where
        by : (s : Result Logical E) → IfOk s (λ l. l.titles ≡ chosen_fields choice (titles_of header)) → IfOk s (λ l. length l.schema.columns ≡ length cands)
            → IfOk s (λ l. has_titles l header ≡ true)
        by (Ok l) are long = header_good l are (long ∙ each)
        by (Err e) are long = tt

    whole : (l : Logical) → ((c : ℕ) → (d : Candidates) → c < length cands → (f : Field) → Accepts (get_or cands c d) f → IsGoodField l c f)
        → l.titles ≡ chosen_fields choice (titles_of header) → length l.schema.columns ≡ length cands
        → (fields : List Field) → length fields ≡ length header → AcceptsRecord cands (chosen_fields choice fields) → IsSome (good_row (logical_format l) header fields)
    whole l fields_good are all fields long accepts =
        row_good l are (all ∙ each) fields long
        (λ j within.
        let low : j < length cands = omega (arith, within, each) in
        let cand = at_of cands j low in
        fields_good j cand.item low (get_or (chosen_fields choice fields) j []) (accepts j cand.item low))

    pub whole_good : IfOk r (λ l. (c : ℕ) → (d : Candidates) → c < length cands → (f : Field) → Accepts (get_or cands c d) f → IsGoodField l c f)
        → IfOk r (λ l. (fields : List Field) → length fields ≡ length header → AcceptsRecord cands (chosen_fields choice fields) → IsSome (good_row (logical_format l) header fields))
    whole_good good = by r good titles columns
      where
        by : (s : Result Logical E) → IfOk s (λ l. (c : ℕ) → (d : Candidates) → c < length cands → (f : Field) → Accepts (get_or cands c d) f → IsGoodField l c f)
            → IfOk s (λ l. l.titles ≡ chosen_fields choice (titles_of header)) → IfOk s (λ l. length l.schema.columns ≡ length cands)
            → IfOk s (λ l. (fields : List Field) → length fields ≡ length header → AcceptsRecord cands (chosen_fields choice fields) → IsSome (good_row (logical_format l) header fields))
        by (Ok l) fields_good are all = whole l fields_good are all
        by (Err e) fields_good are all = tt
