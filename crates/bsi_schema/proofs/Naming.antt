-- The entries of a map of names, as the columns that a schema shows.
use Rattle.std.proofs.Common.{◌≡◌, ℕ, ◌+◌, Bool, false, cond, not, List, [], ◌∷◌, ◌++◌, map, Option, Some, None, String, string_bytes, string_eq, refl, sym, ap, ap₂, ◌∙◌, is_some}
use Rattle.std.specs.Prelude.{position, nat_lt, option_map, slice_get}
use Rattle.std.specs.List.{AllZip, prefix_len}
use Rattle.std.specs.Map.{keys_of}
use Rattle.std.specs.Str.{bytes_eq}
use Rattle.std.proofs.lemmas.List.{length-map, map-append}
use Rattle.std.proofs.lemmas.Option.{slice_get-map, get_or_from_slice_get}
use Rattle.indexmap.proofs.MapLemmas.{some_index}
use Rattle.indexmap.proofs.CallerLemmas.{insert_entry-new}
use Rattle.indexmap.specs.IndexMap.{IndexMap, get, insert_entry}
use Rattle.bsi_schema.specs.Columns.{column_at, named, no_column, position_of}
use Rattle.bsi_schema.specs.declared.form.Layout.{Layout}

module _ {X Y : Type 0} (f : X → Y) (p : Y → Bool) where
  pub prefix_len-map : (xs : List X) → prefix_len p (map f xs) ≡ prefix_len (λ x. p (f x)) xs
  prefix_len-map [] = refl
  prefix_len-map (x ∷ xs) = ap (λ n. cond (p (f x)) (1 + n) 0) (prefix_len-map xs)

module _ {X Y : Type 0} (f : X → Y) (p : Y → Bool) where
  -- the place of the first that passes
  pub position-map : (xs : List X) → position p (map f xs) ≡ position (λ x. p (f x)) xs
  position-map xs =
      ap₂ (λ n m. cond (nat_lt n m) (Some n) None) (prefix_len-map f (λ y. not (p y)) xs) (length-map xs f)

module _ {Z : Type 0} (name : List ℕ) where
  -- the place of a name among the columns is that among the keys
  pub position-named : (es : List (String Z × Layout))
      → position (λ column. bytes_eq name column.name) (map named es) ≡ position (λ key. bytes_eq name (string_bytes key)) (keys_of es)
  position-named es =
      position-map named (λ column. bytes_eq name column.name) es ∙ sym (position-map (λ e. e.0) (λ key. bytes_eq name (string_bytes key)) es)

-- a clone of each entry shows the same columns
pub named-cloned : {Z : Type 0} (es fs : List (String Z × Layout))
    → AllZip (λ p q. (string_bytes q.0 ≡ string_bytes p.0) × (q.1 ≡ p.1)) es fs → map named fs ≡ map named es
named-cloned [] [] all = refl
named-cloned [] (f ∷ fs) all = absurd all
named-cloned (e ∷ es) [] all = absurd all
named-cloned {Z} (e ∷ es) (f ∷ fs) all =
    let same : named {Z = Z} f ≡ named {Z = Z} e = λ i. record { name = all.0.0 i; form = (all.0.1 i).form; offset = (all.0.1 i).offset } in
    ap₂ (λ c cs. c ∷ cs) same (named-cloned es fs all.1)

module _ {Z S : Type 0} (m : IndexMap (String Z) Layout S) (key : String Z) (layout : Layout) where
  -- a name that is no column's goes last
  pub named-insert : (name : List ℕ) → string_bytes key ≡ name → position_of (map named m.entries) name ≡ None
      → map named (insert_entry string_eq m.entries key layout) ≡ map named m.entries ++ record { name = name; form = layout.form; offset = layout.offset } ∷ []
  named-insert name spelled fresh =
      let none : is_some (get string_eq m key) ≡ false =
      sym (some_index (string_eq key) m.entries) ∙ ap is_some (sym (position-named (string_bytes key) m.entries) ∙ ap (position_of (map named m.entries)) spelled ∙ fresh) in
      ap (λ es. map named es) (insert_entry-new string_eq m key layout (absent (get string_eq m key) none)) ∙ map-append named m.entries ((key, layout) ∷ [])
      ∙ ap (λ bytes. map named m.entries ++ record { name = bytes; form = layout.form; offset = layout.offset } ∷ []) spelled
    where
      absent : (o : Option Layout) → is_some o ≡ false → o ≡ None
      absent None e = refl
      absent (Some x) e = cc

module _ {Z : Type 0} (es : List (String Z × Layout)) (c : ℕ) where
  -- column c is the entry there
  pub column_named : (entry : String Z × Layout) → slice_get es c ≡ Some entry → column_at (map named es) c ≡ named entry
  column_named entry at =
      get_or_from_slice_get (map named es) c (named entry) no_column (slice_get-map named es c ∙ ap (option_map named) at)
