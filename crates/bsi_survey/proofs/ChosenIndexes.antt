-- The titles of chosen columns, and their indexes.
use Rattle.std.proofs.Common.{◌≡◌, ℕ, zero, suc, ◌+◌, ◌<◌, ◌≤◌, Bool, true, false, List, [], ◌∷◌, ◌++◌, length, drop, get_or, Option, refl, sym, ap, ◌∙◌, arith, append_assoc, cond, map, ◌||◌}
use Rattle.std.specs.List.{list_any}
use Rattle.std.proofs.lemmas.List.{at_drop_more}
use Rattle.std.proofs.Math.ListN.{drop_of_length-le}
use Rattle.bsi_rows.specs.Fields.{Field}
use Rattle.bsi_survey.specs.Choices.{chosen_indexes, is_wanted}

-- a test of what is seen of each
pub any-seen : {X Y : Type 0} (f : X → Y) (p : Y → Bool) (xs : List X) → list_any (λ x. p (f x)) xs ≡ list_any p (map f xs)
any-seen f p [] = refl
any-seen f p (x ∷ xs) = ap (λ b. p (f x) || b) (any-seen f p xs)

-- each index is below that of the end
pub indexes_within : (wanted : Option (List Field)) (index : ℕ) (titles : List Field) (k : ℕ) (d : ℕ) → k < length (chosen_indexes wanted index titles)
    → get_or (chosen_indexes wanted index titles) k d < index + length titles
unfolding chosen_indexes
indexes_within wanted index [] k d within = absurd (omega (arith, within))
indexes_within wanted index (title ∷ titles) k d within =
    by (is_wanted wanted title) k (λ j low. let is = indexes_within wanted (index + 1) titles j d low in omega (arith, is)) within
  where
    rest : List ℕ
    rest = chosen_indexes wanted (index + 1) titles

    by : (b : Bool) (j : ℕ) → ((i : ℕ) → i < length rest → get_or rest i d < index + suc (length titles)) → j < length (cond b (index ∷ rest) rest)
        → get_or (cond b (index ∷ rest) rest) j d < index + suc (length titles)
    by true zero later low = omega arith
    by true (suc j) later low = later j (omega (arith, low))
    by false j later low = later j low

module _ (wanted : Option (List Field)) (titles : List Field) where
  -- one title more, which is wanted or not
  pub chosen_more : (index : ℕ) (so_far : List ℕ) → index < length titles → is_wanted wanted (get_or titles index []) ≡ true
      → chosen_indexes wanted 0 titles ≡ so_far ++ chosen_indexes wanted index (drop index titles)
      → chosen_indexes wanted 0 titles ≡ (so_far ++ index ∷ []) ++ chosen_indexes wanted (index + 1) (drop (index + 1) titles)
  unfolding chosen_indexes
  chosen_more index so_far within is before =
      let rest = chosen_indexes wanted (index + 1) (drop (index + 1) titles) in
      let step : chosen_indexes wanted index (drop index titles) ≡ index ∷ rest =
      at_drop_more (λ (ts : List Field). chosen_indexes wanted index ts) titles index [] within ∙ ap (λ (b : Bool). cond b (index ∷ rest) rest) is in
      before ∙ ap (λ (is : List ℕ). so_far ++ is) step ∙ sym (append_assoc so_far (index ∷ []) rest)

  pub chosen_less : (index : ℕ) (so_far : List ℕ) → index < length titles → is_wanted wanted (get_or titles index []) ≡ false
      → chosen_indexes wanted 0 titles ≡ so_far ++ chosen_indexes wanted index (drop index titles)
      → chosen_indexes wanted 0 titles ≡ so_far ++ chosen_indexes wanted (index + 1) (drop (index + 1) titles)
  unfolding chosen_indexes
  chosen_less index so_far within is before =
      let rest = chosen_indexes wanted (index + 1) (drop (index + 1) titles) in
      let step : chosen_indexes wanted index (drop index titles) ≡ rest =
      at_drop_more (λ (ts : List Field). chosen_indexes wanted index ts) titles index [] within ∙ ap (λ (b : Bool). cond b (index ∷ rest) rest) is in
      before ∙ ap (λ (is : List ℕ). so_far ++ is) step

  -- no title is left
  pub chosen_all : (index : ℕ) (so_far : List ℕ) → length titles ≤ index
      → chosen_indexes wanted 0 titles ≡ so_far ++ chosen_indexes wanted index (drop index titles) → so_far ≡ chosen_indexes wanted 0 titles
  unfolding chosen_indexes
  chosen_all index so_far all before =
      let none : drop index titles ≡ [] = drop_of_length-le titles all in
      sym (before ∙ ap (λ (ts : List Field). so_far ++ chosen_indexes wanted index ts) none ∙ no_more so_far)
    where
      no_more : (is : List ℕ) → is ++ [] ≡ is
      no_more [] = refl
      no_more (i ∷ is) = ap (λ (rest : List ℕ). i ∷ rest) (no_more is)
