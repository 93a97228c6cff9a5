-- What fields begin with, and how a reader's error is handed on.
use Rattle.std.proofs.Common.{◌≡◌, ℕ, zero, suc, ◌<◌, List, [], ◌∷◌, length, get_or, Option, Some, None, option_map, Result, Ok, Err, arith, ap, subst, sym, ◌∙◌, refl}
use Rattle.std.specs.Prelude.{IsErr, IsErrAnd}
use Rattle.csv.specs.Records.{field_at}
use Rattle.bsi_rows.specs.Fields.{Field}
use Rattle.bsi_syntax.specs.Reading.{first_as, texts, IsParsedAs, Lent}
use Rattle.bsi_syntax.specs.declared.grammar.QuestionError.{QuestionError}
use Rattle.bsi_syntax.specs.declared.grammar.QuestionError.TheVariants.{NoMemory, Stopped}
use Rattle.bsi_syntax.specs.declared.grammar.Stop.{Stop}
use Rattle.bsi_syntax.proofs.SpellWords.{none_is_some, some_same}

-- ---- lent fields

pub texts_long : (fields : List Lent) → length (texts fields) ≡ length fields
texts_long [] = refl
texts_long (field ∷ fields) = ap suc (texts_long fields)

pub lent_at : (fields : List Lent) (index : ℕ) (d : Lent) → index < length fields → Some (get_or fields index d).now ≡ field_at (texts fields) index
unfolding field_at
lent_at [] index d within = absurd (omega (arith, within))
lent_at (field ∷ fields) zero d within = refl
lent_at (field ∷ fields) (suc index) d within = lent_at fields index d (omega (arith, within))

-- ---- the first field

-- what was read, and the fields behind it
abbrev pub some_first : {T : Type 0} → T → List Field → Option (T × List Field)
some_first x rest = Some (x, rest)

pub first_is : {T : Type 0} (read : Field → Option T) (fields : List Field) (x : T) (rest : List Field) → some_first x rest ≡ first_as read fields
    → (field : Field) × (fields ≡ field ∷ rest) × (read field ≡ Some x)
first_is read [] x rest is = absurd (none_is_some (x, rest) (sym is))
first_is {T} read (field ∷ others) x rest is = by (read field) refl is
  where
    by : (o : Option T) → read field ≡ o → some_first x rest ≡ option_map (λ y. (y, others)) o → (f : Field) × (field ∷ others ≡ f ∷ rest) × (read f ≡ Some x)
    by None at is = absurd (none_is_some (x, rest) (sym is))
    by (Some y) at is =
        let one : T × List Field = (x, rest) in
        let other : T × List Field = (y, others) in
        let same : one ≡ other = some_same one other is in
        (field, ap (λ (p : T × List Field). field ∷ p.1) (sym same), at ∙ ap (λ (p : T × List Field). Some p.0) (sym same))

pub first_none : {T : Type 0} (read : Field → Option T) (fields : List Field) (field : Field) (rest : List Field) (x : T) → None ≡ first_as read fields
    → fields ≡ field ∷ rest → read field ≡ Some x → ⊥
first_none read fields field rest x none is at = none_is_some (x, rest) (none ∙ ap (first_as read) is ∙ ap (option_map (λ y. (y, rest))) at)

-- ---- errors

-- a stop is handed on
pub stopped_on : {T : Type 0} (Is : T → Type 0) (r : Result T QuestionError) (stop : Stop) → IsErr r × IsErrAnd r (λ e. e ≡ Stopped stop)
    → ((x : T) → Is x → ⊥) → IsParsedAs Is r
stopped_on Is (Ok x) stop is none = absurd is.1
stopped_on Is (Err e) stop is none = subst (λ (e : QuestionError). IsParsedAs Is (Err e)) (sym is.1) none

-- and so is refused memory
pub refused_on : {T : Type 0} (Is : T → Type 0) (r : Result T QuestionError) → IsErr r × IsErrAnd r (λ e. e ≡ NoMemory) → IsParsedAs Is r
refused_on Is (Ok x) is = absurd is.1
refused_on Is (Err e) is = subst (λ (e : QuestionError). IsParsedAs Is (Err e)) (sym is.1) tt

-- and the error of a part
pub error_on : {T U : Type 0} (Is : T → Type 0) (Part : U → Type 0) (r : Result T QuestionError) (e : QuestionError) → IsErr r × IsErrAnd r (λ given. given ≡ e)
    → IsParsedAs Part (Err e) → ((x : T) → Is x → (y : U) × Part y) → IsParsedAs Is r
error_on Is Part (Ok x) e is was from = absurd is.1
error_on {T} Is Part (Err given) e is was from = subst (λ (e : QuestionError). IsParsedAs Is (Err e)) (sym is.1) (by e was)
  where
    by : (e : QuestionError) → IsParsedAs Part (Err e) → IsParsedAs Is (Err e)
    by (Stopped stop) none = λ x told. none (from x told).0 (from x told).1
    by NoMemory was = tt
