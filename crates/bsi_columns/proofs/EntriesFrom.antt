-- The entries that a not-null bitmap and digits stand for, once the digits are known to be those of entries.
use Rattle.std.proofs.Common.{◌≡◌, ℕ, ◌+◌, ◌-◌, ◌<◌, ◌≤◌, Bool, false, List, [], ◌++◌, length, get_or, map, replicate, refl, sym, ap, ap₂, ◌∙◌, subst, inl, inr, arith}
use Rattle.std.specs.Prelude.{All, Option, Some, None, is_some, cond}
use Rattle.std.proofs.lemmas.Bool.{cases_lt}
use Rattle.std.proofs.lemmas.List.{length-map, get_or_past, same_lists, get_or-map, map-append, length-replicate, get_or-replicate}
use Rattle.std.proofs.lemmas.List.Elements.{All-nil, All-append}
use Rattle.std.proofs.lemmas.List.FromFn.{fill_by_all}
use Rattle.bsi_digits.specs.Digits.{product, digit_of, digits_of, components, weighted_sum}
use Rattle.bsi_digits.proofs.CallerLemmas.{weighted_sum-digits_of}
use Rattle.bsi_digits.specs.Blocks.{block_entries, IsNumberBlock}
use Rattle.bsi_digits.specs.Comparisons.{number_or_zero}
use Rattle.bsi_digits.proofs.BlockEntries.{length-block_entries}
use Rattle.bsi_slices.proofs.BlockWords.{number-block_entries}
use Rattle.bsi_columns.specs.Decomposed.{digits_at, weighed_entry, entries_of, Decomposes, IsRoomy}

-- an entry, from whether it is a number and from the number
entry_of_number : (e : Option ℕ) → cond (is_some e) (Some (number_or_zero e)) None ≡ e
entry_of_number None = refl
entry_of_number (Some x) = refl

module _ (bs : List ℕ) (not_null : List Bool) (ds : List (List ℕ)) (entries : List (Option ℕ)) (decomposes : Decomposes bs not_null ds entries) where
  pub rows_of : length not_null ≡ length entries
  rows_of = ap length decomposes.not_null_is ∙ length-map entries is_some

  -- the digits of a row are those of its entry's number
  digits_at_row : (r : ℕ) → r < length entries → digits_at ds r ≡ digits_of bs (number_or_zero (get_or entries r None))
  digits_at_row r within =
      let number : ℕ = number_or_zero (get_or entries r None) in
      let long : length (digits_at ds r) ≡ length bs = length-map ds (λ (d : List ℕ). get_or d r 0) ∙ decomposes.count in
      same_digits_by (digits_at ds r) bs number long (λ i below.
      get_or-map (λ (d : List ℕ). get_or d r 0) ds i [] 0 (omega (arith, decomposes.count))
      ∙ ap (λ d. get_or d r 0) (decomposes.digits_are i below)
      ∙ get_or-map (λ (e : Option ℕ). digit_of bs (number_or_zero e) i) entries r None 0 within)
    where
      same_digits_by : (xs bs : List ℕ) (v : ℕ) → length xs ≡ length bs → ((i : ℕ) → i < length bs → get_or xs i 0 ≡ digit_of bs v i) → xs ≡ digits_of bs v
      same_digits_by xs bs v long each = fill_by_all (digit_of bs v) xs (length bs) 0 long each

  -- so the entries are those
  pub entries_from : entries_of bs not_null ds ≡ entries
  unfolding entries_of
  entries_from = sym (fill_by_all (weighed_entry bs not_null ds) entries (length not_null) None (sym rows_of) (λ r below.
      let within : r < length entries = omega (arith, rows_of) in
      let e : Option ℕ = get_or entries r None in
      let is_there : get_or not_null r false ≡ is_some e = ap (λ bits. get_or bits r false) decomposes.not_null_is ∙ get_or-map is_some entries r None false within in
      let number : weighted_sum bs (digits_at ds r) (components bs) ≡ number_or_zero e =
      ap (λ xs. weighted_sum bs xs (components bs)) (digits_at_row r within) ∙ weighted_sum-digits_of bs (number_or_zero e) (decomposes.below r None within) in
      sym (ap₂ (λ b n. cond b (Some n) None) is_there number ∙ entry_of_number e)))

  pub decomposed_itself : Decomposes bs not_null ds (entries_of bs not_null ds)
  decomposed_itself = subst (λ es. Decomposes bs not_null ds es) (sym entries_from) decomposes

  -- each component has as many digits as there are rows
  pub digits_long : (k : ℕ) → k < length bs → length (get_or ds k []) ≡ length not_null
  digits_long k below = ap length (decomposes.digits_are k below) ∙ length-map entries (λ (e : Option ℕ). digit_of bs (number_or_zero e) k) ∙ sym rows_of

  -- no component has more digits than there are entries
  pub digits_at_most : (k : ℕ) → length (get_or ds k []) ≤ length entries
  digits_at_most k = elim (cases_lt k (length bs)) [
    | inl below ↦ omega (arith, ap length (decomposes.digits_are k below), length-map entries (λ (e : Option ℕ). digit_of bs (number_or_zero e) k))
    | inr past ↦ omega (arith, ap length (get_or_past ds k [] (omega (arith, past, decomposes.count))))
  ]

-- a column of no entries
pub no_entries : (bs : List ℕ) (not_null : List Bool) (ds : List (List ℕ)) → not_null ≡ [] → ds ≡ replicate (length bs) [] → Decomposes bs not_null ds []
no_entries bs not_null ds none empty = record {
  count = ap length empty ∙ length-replicate (length bs) [];
  not_null_is = none;
  digits_are = λ i below. ap (λ xs. get_or xs i []) empty ∙ get_or-replicate (length bs) i [] [] below;
  below = All-nil (λ (e : Option ℕ). number_or_zero e < product bs);
}

-- more entries, once each component has its digits of their numbers
pub more_entries : (bs : List ℕ) (not_null : List Bool) (ds : List (List ℕ)) (entries block : List (Option ℕ)) (bits : List Bool) (more : List (List ℕ)) → Decomposes bs not_null ds entries
    → bits ≡ not_null ++ map is_some block → length more ≡ length bs
    → ((i : ℕ) → i < length bs → get_or more i [] ≡ get_or ds i [] ++ map (λ e. digit_of bs (number_or_zero e) i) block)
    → All (λ e. number_or_zero e < product bs) block → Decomposes bs bits more (entries ++ block)
more_entries bs not_null ds entries block bits more decomposes bits_are long each small = record {
  count = long;
  not_null_is = bits_are ∙ ap (λ ps. ps ++ map is_some block) decomposes.not_null_is ∙ sym (map-append is_some entries block);
  digits_are = λ i below.
      each i below ∙ ap (λ xs. xs ++ map (λ e. digit_of bs (number_or_zero e) i) block) (decomposes.digits_are i below)
      ∙ sym (map-append (λ (x : Option ℕ). digit_of bs (number_or_zero x) i) entries block);
  below = All-append (λ (x : Option ℕ). number_or_zero x < product bs) entries block decomposes.below small;
}

-- all entries of another column under the same bases
pub all_entries : (bs others_bs : List ℕ) (not_null others bits : List Bool) (ds more all : List (List ℕ)) (entries added : List (Option ℕ)) → Decomposes bs not_null ds entries → Decomposes others_bs others more added
    → others_bs ≡ bs → bits ≡ not_null ++ others → length all ≡ length bs
    → ((i : ℕ) → i < length bs → get_or all i [] ≡ get_or ds i [] ++ get_or more i [])
    → Decomposes bs bits all (entries ++ added)
all_entries bs others_bs not_null others bits ds more all entries added decomposes of_others same bits_are long each =
    let other : Decomposes bs others more added = subst (λ b. Decomposes b others more added) same of_others in
    more_entries bs not_null ds entries added bits all decomposes
    (bits_are ∙ ap (λ ps. not_null ++ ps) other.not_null_is) long
    (λ i below. each i below ∙ ap (λ xs. get_or ds i [] ++ xs) (other.digits_are i below)) other.below

-- each component has as many digits as there are entries
pub component_rows : {E : Type 0} (digits : E → List ℕ) (cs : List E) (bs : List ℕ) (not_null : List Bool) (entries : List (Option ℕ)) →
    Decomposes bs not_null (map digits cs) entries → (k : ℕ) (d : E) → k < length cs → length (digits (get_or cs k d)) ≡ length entries
component_rows digits cs bs not_null entries decomposes k d within =
    ap length (sym (get_or-map digits cs k d [] within) ∙ decomposes.digits_are k (omega (arith, decomposes.count, length-map cs digits)))
    ∙ length-map entries (λ (e : Option ℕ). digit_of bs (number_or_zero e) k)

-- the digits of a block's numbers are those of its entries
pub block_digits : (digit : ℕ → ℕ) (numbers : List ℕ) (not_null : ℕ) → IsNumberBlock numbers not_null
    → map digit numbers ≡ map (λ e. digit (number_or_zero e)) (block_entries numbers not_null)
block_digits digit numbers not_null is =
    let entries = block_entries numbers not_null in
    let long : length entries ≡ length numbers = length-block_entries numbers not_null in
    same_lists _ _ (length-map numbers digit ∙ sym (length-map entries (λ e. digit (number_or_zero e)) ∙ long)) (λ r d within.
    let below : r < length numbers = omega (arith, length-map numbers digit, within) in
    get_or-map digit numbers r 0 d below
    ∙ ap digit (number-block_entries numbers not_null is r)
    ∙ sym (get_or-map (λ e. digit (number_or_zero e)) entries r None d (omega (arith, below, long))))

-- room that is used
pub roomy_less : (rows room not_null used rows' not_null' : ℕ) (rooms rooms' : List ℕ) → IsRoomy rows room not_null rooms → used ≤ room → rows' ≡ rows + used → not_null ≤ not_null' + used
    → length rooms' ≡ length rooms → ((k : ℕ) → get_or rooms k 0 ≤ get_or rooms' k 0 + used) → IsRoomy rows' (room - used) not_null' rooms'
roomy_less rows room not_null used rows' not_null' rooms rooms' roomy enough more marks long spent = record {
  within = omega (arith, roomy.within);
  bitmap = omega (arith, roomy.bitmap);
  each = λ k within. omega (arith, roomy.each k (omega (arith, long, within)), spent k);
}
