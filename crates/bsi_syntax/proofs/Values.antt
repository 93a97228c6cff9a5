-- Numbers and values, read from the first field to the last: what was read, and what is made of the fields that are
-- left.
use Rattle.std.proofs.Common.{◌≡◌, ℕ, ◌+◌, ◌<◌, ◌≤◌, Bool, List, [], ◌∷◌, ◌++◌, length, get_or, drop, Option, Some, None, option_map, option_and_then, sym, ◌∙◌, ap, refl, ℤ}
use Rattle.std.proofs.lemmas.List.{at_drop_more, at_drop_all, append_assoc, append-nil}
use Rattle.bsi_syntax.specs.Bytes.{KnownBytes}
use Rattle.bsi_rows.specs.Fields.{Field}
use Rattle.bsi_syntax.specs.Numbers.{u32_of, u32s_of, value_in, values_in}

-- what was read, before what is read later
abbrev pub behind : {X : Type 0} → List X → Option (List X) → Option (List X)
behind read later = option_map (λ more. read ++ more) later

behind_next : {X : Type 0} (read : List X) (x : X) (later : Option (List X)) → behind read (option_map (λ more. x ∷ more) later) ≡ behind (read ++ x ∷ []) later
behind_next read x None = refl
behind_next read x (Some more) = ap Some (sym (append_assoc read (x ∷ []) more))

pub behind_none : {X : Type 0} (later : Option (List X)) → later ≡ behind [] later
behind_none None = refl
behind_none (Some more) = refl

-- ---- numbers of 32 bits

module _ (whole : KnownBytes) (fields : List Field) (i : ℕ) (read : List ℕ) (before : whole ≡ behind read (u32s_of (drop i fields))) where
  pub smalls_next : (n : ℕ) → i < length fields → u32_of (get_or fields i []) ≡ Some n → whole ≡ behind (read ++ n ∷ []) (u32s_of (drop (i + 1) fields))
  unfolding u32s_of
  smalls_next n within this =
      let rest = u32s_of (drop (i + 1) fields) in
      let step : u32s_of (drop i fields) ≡ option_map (λ more. n ∷ more) rest =
      at_drop_more u32s_of fields i [] within ∙ ap (λ o. option_and_then (λ m. option_map (λ more. m ∷ more) rest) o) this in
      before ∙ ap (behind read) step ∙ behind_next read n rest

  pub smalls_stop : i < length fields → u32_of (get_or fields i []) ≡ None → None ≡ whole
  unfolding u32s_of
  smalls_stop within this =
      let rest = u32s_of (drop (i + 1) fields) in
      let step : u32s_of (drop i fields) ≡ None =
      at_drop_more u32s_of fields i [] within ∙ ap (λ o. option_and_then (λ m. option_map (λ more. m ∷ more) rest) o) this in
      sym (before ∙ ap (behind read) step)

  pub smalls_done : length fields ≤ i → Some read ≡ whole
  unfolding u32s_of
  smalls_done all = sym (before ∙ ap (behind read) (at_drop_all u32s_of fields i all) ∙ ap Some (append-nil read))

-- ---- values

module _ (signed : Bool) (whole : Option (List (Option ℤ))) (fields : List Field) (i : ℕ) (read : List (Option ℤ))
    (before : whole ≡ behind read (values_in signed (drop i fields))) where
  pub values_next : (value : Option ℤ) → i < length fields → value_in signed (get_or fields i []) ≡ Some value
      → whole ≡ behind (read ++ value ∷ []) (values_in signed (drop (i + 1) fields))
  unfolding values_in
  values_next value within this =
      let rest = values_in signed (drop (i + 1) fields) in
      let step : values_in signed (drop i fields) ≡ option_map (λ more. value ∷ more) rest =
      at_drop_more (values_in signed) fields i [] within ∙ ap (λ o. option_and_then (λ v. option_map (λ more. v ∷ more) rest) o) this in
      before ∙ ap (behind read) step ∙ behind_next read value rest

  pub values_stop : i < length fields → value_in signed (get_or fields i []) ≡ None → None ≡ whole
  unfolding values_in
  values_stop within this =
      let rest = values_in signed (drop (i + 1) fields) in
      let step : values_in signed (drop i fields) ≡ None =
      at_drop_more (values_in signed) fields i [] within ∙ ap (λ o. option_and_then (λ v. option_map (λ more. v ∷ more) rest) o) this in
      sym (before ∙ ap (behind read) step)

  pub values_done : length fields ≤ i → Some read ≡ whole
  unfolding values_in
  values_done all = sym (before ∙ ap (behind read) (at_drop_all (values_in signed) fields i all) ∙ ap Some (append-nil read))
