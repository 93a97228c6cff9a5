-- The candidates of a column, before and after a field.
use Rattle.std.proofs.Common.{◌≡◌, ◌⊎◌, inl, inr, ℕ, Bool, true, false, ◌||◌, List, [], ◌∷◌, map, arith, refl, sym, subst, ap, ap₂, ◌∙◌}
use Rattle.std.specs.List.{list_any, Contains}
use Rattle.std.specs.Str.{bytes_eq}
use Rattle.bsi_inference.specs.Candidates.{AreJoined, AreNext, EachAccepts}
use Rattle.bsi_inference.specs.ColumnCandidates.{Accepts, AcceptsValue, HasNextKinds, HaveSameForms, IsNull}
use Rattle.bsi_inference.specs.Decimals.{AcceptsDecimal, AreJoinedDecimals}
use Rattle.bsi_inference.specs.Gatherings.{HasText, HasTextIn}
use Rattle.bsi_kinds.specs.Nulls.{is_null_word}
use Rattle.bsi_inference.proofs.Steps.{alike_len, forms_stay}
use Rattle.bsi_inference.specs.declared.candidate.Candidate.{Candidate}
use Rattle.bsi_inference.specs.declared.candidates.Candidates.{Candidates}
use Rattle.bsi_inference.specs.declared.decimals.Decimals.{Decimals}
use Rattle.bsi_inference.specs.declared.gathered.Gathered.{Gathered}
use Rattle.bsi_inference.specs.declared.gathered.Gathering.{Gathering}
use Rattle.bsi_inference.specs.declared.gathered.Gathering.TheVariants.{Missing}

-- each form takes the field, and what it took
forms_take : (field : List ℕ) (old new : List Candidate) → AreNext field old new → EachAccepts new field
forms_take field old new next k d within = let step = next.each k d (omega (arith, next.len)) in step.accepts

forms_keep : (field : List ℕ) (old new : List Candidate) → AreNext field old new → (f : List ℕ) → EachAccepts old f → EachAccepts new f
forms_keep field old new next f accepts k d within = let step = next.each k d (omega (arith, next.len)) in step.preserved f (accepts k d (omega (arith, next.len)))

-- `new` is the column after a field that `read` has seen
module _ (field : List ℕ) (old read new : Candidates) (next : HasNextKinds field old read) (point : new.point ≡ read.point) (decimals : new.decimals ≡ read.decimals)
    (forms : new.forms.items ≡ read.forms.items) (nulls : new.nulls ≡ old.nulls) where
  decimal_takes : (f : List ℕ) → AcceptsDecimal old.point read.decimals f → AcceptsDecimal new.point new.decimals f
  decimal_takes f accepts =
      subst (λ (p : ℕ). AcceptsDecimal p new.decimals f) (sym (point ∙ next.point))
      (subst (λ (d : Decimals). AcceptsDecimal old.point d f) (sym decimals) accepts)

  each_takes : (f : List ℕ) → EachAccepts read.forms.items f → EachAccepts new.forms.items f
  each_takes f accepts = subst (λ (cs : List Candidate). EachAccepts cs f) (sym forms) accepts

  takes_value : AcceptsValue new field
  takes_value = record {
    decimal = decimal_takes field next.decimals.accepts;
    forms = each_takes field (forms_take field old.forms.items read.forms.items next.forms);
  }

  keeps_value : (f : List ℕ) → AcceptsValue old f → AcceptsValue new f
  keeps_value f accepts = record {
    decimal = decimal_takes f (next.decimals.preserved f accepts.decimal);
    forms = each_takes f (forms_keep field old.forms.items read.forms.items next.forms f accepts.forms);
  }

  keeps_null : (f : List ℕ) → IsNull old f → IsNull new f
  keeps_null f (inl empty) = inl empty
  keeps_null f (inr word) = inr (subst (λ (ts : List (List ℕ)). Contains ts f) (sym nulls) word)

  keeps_either : (f : List ℕ) → IsNull old f ⊎ AcceptsValue old f → IsNull new f ⊎ AcceptsValue new f
  keeps_either f (inl null) = inl (keeps_null f null)
  keeps_either f (inr value) = inr (keeps_value f value)

  keeps_text : (f : List ℕ) → (HasText old.gathered f → HasText new.gathered f) → (f ≡ []) ⊎ HasText old.gathered f → (f ≡ []) ⊎ HasText new.gathered f
  keeps_text f text (inl empty) = inl empty
  keeps_text f text (inr has) = inr (text has)

  pub value_taken : HasText new.gathered field → Accepts new field
  value_taken text = record { value = inr takes_value; text = inr text }

  pub value_kept : ((f : List ℕ) → HasText old.gathered f → HasText new.gathered f) → (f : List ℕ) → Accepts old f → Accepts new f
  value_kept text f accepts = record { value = keeps_either f accepts.value; text = keeps_text f (text f) accepts.text }

-- a field is among words, by what each of them has as its bytes
word_in : {X : Type 0} (g : X → List ℕ) (xs : List X) (f : List ℕ) → is_null_word (map g xs) f ≡ list_any (λ x. bytes_eq (g x) f) xs
word_in g [] f = refl
word_in g (x ∷ xs) f = ap (λ b. bytes_eq (g x) f || b) (word_in g xs f)

pub word_is : {X : Type 0} (g : X → List ℕ) (xs : List X) (f : List ℕ) → list_any (λ x. bytes_eq (g x) f) xs ≡ true → is_null_word (map g xs) f ≡ true
word_is g xs f found = word_in g xs f ∙ found

or_true : (a b : Bool) → b ≡ true → (a || b) ≡ true
or_true true b is = refl
or_true false b is = is

-- a null word is null, and another field that is not empty is none
pub word_null : {X : Type 0} (g : X → List ℕ) (xs : List X) (f : List ℕ) (empty : Bool) → list_any (λ x. bytes_eq (g x) f) xs ≡ true → (empty || is_null_word (map g xs) f) ≡ true
word_null g xs f empty found = or_true empty (is_null_word (map g xs) f) (word_in g xs f ∙ found)

pub value_null : {X : Type 0} (g : X → List ℕ) (xs : List X) (f : List ℕ) (empty : Bool) → empty ≡ false → list_any (λ x. bytes_eq (g x) f) xs ≡ false
    → (empty || is_null_word (map g xs) f) ≡ false
value_null g xs f empty some none = ap₂ (λ a b. a || b) some (word_in g xs f ∙ none)

-- where texts are missing, nothing is said of them
pub missing_has : (g : Gathered) (f : List ℕ) → g.state ≡ Missing → HasText g f
missing_has g f is = subst (λ (s : Gathering). HasTextIn s g.texts f) (sym is) tt

-- a column stays alike
pub next_alike : (field : List ℕ) (old new : Candidates) → HasNextKinds field old new → HaveSameForms old new
next_alike field old new next = record {
  point = sym next.point;
  rounding = sym next.decimals.rounding;
  forms = forms_stay old.forms.items new.forms.items next.forms.len (λ k d within. let step = next.forms.each k d within in step.form);
}

-- two parts of a column
module _ (old other new : Candidates) (alike : HaveSameForms old other) (point : new.point ≡ old.point) (decimals : AreJoinedDecimals old.decimals other.decimals new.decimals)
    (forms : AreJoined old.forms.items other.forms.items new.forms.items) where
  first_value : (f : List ℕ) → AcceptsValue old f → AcceptsValue new f
  first_value f accepts = record {
    decimal = subst (λ (p : ℕ). AcceptsDecimal p new.decimals f) (sym point) (decimals.preserved old.point f accepts.decimal);
    forms = λ k d within. let step = forms.each k d (omega (arith, within, forms.len)) in step.preserved f (accepts.forms k d (omega (arith, within, forms.len)));
  }

  second_value : (f : List ℕ) → AcceptsValue other f → AcceptsValue new f
  second_value f accepts =
      let lens = alike_len old.forms.items other.forms.items alike.forms in
      record {
        decimal = subst (λ (p : ℕ). AcceptsDecimal p new.decimals f) (sym (point ∙ alike.point)) (decimals.joined other.point f accepts.decimal);
        forms = λ k d within. let step = forms.each k d (omega (arith, within, forms.len)) in step.joined f (accepts.forms k d (omega (arith, within, forms.len, lens)));
      }

  null_or : (part : Candidates) → ((f : List ℕ) → Contains part.nulls f → Contains new.nulls f) → ((f : List ℕ) → AcceptsValue part f → AcceptsValue new f)
      → (f : List ℕ) → IsNull part f ⊎ AcceptsValue part f → IsNull new f ⊎ AcceptsValue new f
  null_or part nulls value f (inl (inl empty)) = inl (inl empty)
  null_or part nulls value f (inl (inr word)) = inl (inr (nulls f word))
  null_or part nulls value f (inr accepted) = inr (value f accepted)

  empty_or : (part : Candidates) → ((f : List ℕ) → HasText part.gathered f → HasText new.gathered f) → (f : List ℕ) → (f ≡ []) ⊎ HasText part.gathered f → (f ≡ []) ⊎ HasText new.gathered f
  empty_or part text f (inl empty) = inl empty
  empty_or part text f (inr has) = inr (text f has)

  pub join_kept : ((f : List ℕ) → Contains old.nulls f → Contains new.nulls f) → ((f : List ℕ) → HasText old.gathered f → HasText new.gathered f)
      → (f : List ℕ) → Accepts old f → Accepts new f
  join_kept nulls text f accepts = record { value = null_or old nulls first_value f accepts.value; text = empty_or old text f accepts.text }

  pub join_joined : ((f : List ℕ) → Contains other.nulls f → Contains new.nulls f) → ((f : List ℕ) → HasText other.gathered f → HasText new.gathered f)
      → (f : List ℕ) → Accepts other f → Accepts new f
  join_joined nulls text f accepts = record { value = null_or other nulls second_value f accepts.value; text = empty_or other text f accepts.text }

  pub join_alike : HaveSameForms old new
  join_alike = record { point = sym point; rounding = sym decimals.rounding; forms = forms_stay old.forms.items new.forms.items forms.len (λ k d within. let step = forms.each k d within in step.form) }
