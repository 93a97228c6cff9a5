-- What the calls that make a schema change.
use Rattle.std.proofs.Common.{◌≡◌, ℕ, ◌<◌, Bool, true, false, not, ◌&&◌, ◌||◌, ◌==◌, if◌then◌else◌, List, Vec, Global, [], ◌∷◌, ◌++◌, length, map, set, Ok, Err, Result, OnOk, eqb-true, refl, sym, subst, ap, ap₂, ◌∙◌, IsTrue}
use Rattle.std.proofs.lemmas.Bool.{and_parts}
use Rattle.std.proofs.lemmas.List.{get_or-set_other, get_or-set_same, set-get_or}
use Rattle.std.proofs.lemmas.List.Folds.{list_any-append}
use Rattle.std.proofs.lemmas.Slice.Eq.{bytes_eq-Decides}
use Rattle.std.specs.List.{Contains}
use Rattle.std.specs.Str.{bytes_eq}
use Rattle.bsi_rows.specs.Fields.{Field}
use Rattle.bsi_kinds.specs.Nulls.{is_null_word}
use Rattle.bsi_kinds.specs.declared.kind.Kind.{Kind}
use Rattle.bsi_kinds.specs.declared.kind.Kind.TheVariants.{Decimal}
use Rattle.bsi_inference.specs.declared.decision.Column.{Column}
use Rattle.bsi_logical.specs.Dialects.{dialect, is_dialect, is_usual, usual_dialect}
use Rattle.bsi_logical.specs.Entries.{is_text}
use Rattle.bsi_logical.specs.Logical.{kind_of, name_of, title_of, Logical}
use Rattle.bsi_logical.specs.Records.{dialect_given, kind_given, null_given, title_given, with_kind, with_title, Does, Said}
use Rattle.bsi_logical.specs.declared.dialect.Dialect.{Dialect}
use Rattle.bsi_logical.specs.declared.refusal.DeclareError.{DeclareError}
use Rattle.bsi_logical.specs.declared.refusal.Refusal.{Refusal}
use Rattle.bsi_survey.specs.Made.{is_null_by, AddsNulls, HasNullsOf}

-- what was said, if one thing can be said
first_of : (a : Bool) (why : Refusal) (other : Said) (new : Logical) → (if a then Err why else other) ≡ Ok new → other ≡ Ok new
first_of true why other new is = absurd (cc)
first_of false why other new is = is

last_of : (a : Bool) (why : Refusal) (said new : Logical) → (if a then Ok said else Err why) ≡ Ok new → new ≡ said
last_of true why said new is = cc
last_of false why said new is = absurd (cc)

other_of : (a : Bool) (why : Refusal) (said new : Logical) → (if a then Err why else Ok said) ≡ Ok new → new ≡ said
other_of true why said new is = absurd (cc)
other_of false why said new is = cc

not_both : (b : Bool) → b ≡ true → b ≡ false → ⊥
not_both true is other = absurd (cc)
not_both false is other = absurd (cc)

-- ---- the dialect

pub dialect_set : (l new : Logical) (d : Dialect) → dialect_given l d ≡ Ok new → new ≡ record l { dialect = d }
dialect_set l new d is = last_of (is_dialect d && not (is_usual d)) _ (record l { dialect = d }) new (first_of (not (is_usual l.dialect)) _ _ new is)

usual_is : (d : Dialect) → is_usual d ≡ true → d ≡ usual_dialect
usual_is d is =
    let parts = and_parts (d.delimiter == 44) (d.point == 46) is in
    ap₂ (λ (a b : ℕ). dialect a b) (eqb-true d.delimiter 44 parts.0) (eqb-true d.point 46 parts.1)

pub dialect_was : (l : Logical) (d : Dialect) → l.dialect ≡ usual_dialect → is_usual d ≡ true → l ≡ record l { dialect = d }
dialect_was l d usual is = ap (λ (e : Dialect). record l { dialect = e }) (usual ∙ sym (usual_is d is))

pub dialect_done : (l new : Logical) (d : Dialect) (r : Result (Unit {0}) DeclareError) → Does (dialect_given l d) l new r → OnOk r (new ≡ record l { dialect = d })
dialect_done l new d (Ok done) is = dialect_set l new d is
dialect_done l new d (Err why) is = tt

-- ---- titles

pub title_set : (l new : Logical) (c : ℕ) (title : Field) → title_given l c title ≡ Ok new → new ≡ with_title l c title
title_set l new c title is = other_of _ _ (with_title l c title) new (first_of (not (bytes_eq (title_of l c) (name_of l c))) _ _ new is)

pub title_was : (l : Logical) (c : ℕ) (title : Field) → title_of l c ≡ title → l ≡ with_title l c title
title_was l c title same =
    ap (λ (ts : List Field). record l { titles = ts }) (sym (set-get_or l.titles c []) ∙ ap (set l.titles c) same)

pub title_done : (l new : Logical) (c : ℕ) (title : Field) (r : Result (Unit {0}) DeclareError) → Does (title_given l c title) l new r → OnOk r (new ≡ with_title l c title)
title_done l new c title (Ok done) is = title_set l new c title is
title_done l new c title (Err why) is = tt

-- a further title is set
pub titles_more : (first now new : Logical) (c : ℕ) (title : Field) → now ≡ record first { titles = now.titles } → new ≡ with_title now c title
    → new ≡ record first { titles = new.titles }
titles_more first now new c title same is =
    is ∙ ap (λ (l : Logical). record l { titles = set now.titles c title }) same ∙ ap (λ (ts : List Field). record first { titles = ts }) (sym (ap (λ (l : Logical). l.titles) is))

-- ---- kinds

pub kind_set : (l new : Logical) (c : ℕ) (kind : Kind) → kind_given l c kind ≡ Ok new → new ≡ with_kind l c kind
kind_set l new c kind is = last_of _ _ (with_kind l c kind) new is

pub kind_same : (l : Logical) (c : ℕ) (kind : Kind) → c < length l.kinds → kind_of (with_kind l c kind) c ≡ kind
kind_same l c kind within = get_or-set_same l.kinds c kind (Decimal 0) within

pub kind_other : (l : Logical) (c k : ℕ) (kind : Kind) → (k ≡ c → ⊥) → kind_of (with_kind l c kind) k ≡ kind_of l k
kind_other l c k kind other = get_or-set_other l.kinds c k kind (Decimal 0) other

-- a further kind is set
pub kinds_more : (first now new : Logical) (c : ℕ) (kind : Kind) → now ≡ record first { kinds = now.kinds } → new ≡ with_kind now c kind
    → new ≡ record first { kinds = new.kinds }
kinds_more first now new c kind same is =
    is ∙ ap (λ (l : Logical). record l { kinds = set now.kinds c kind }) same ∙ ap (λ (ks : List Kind). record first { kinds = ks }) (sym (ap (λ (l : Logical). l.kinds) is))

-- ---- null words

either_true : (a b c : Bool) → (a || b) ≡ true → (a || (b || c)) ≡ true
either_true true b c is = refl
either_true false true c is = refl
either_true false false c is = absurd (cc)

last_true : (a b c : Bool) → c ≡ true → (a || (b || (c || false))) ≡ true
last_true true b c is = refl
last_true false true c is = refl
last_true false false true is = refl
last_true false false false is = is

-- a word is added
module _ (nulls : List Field) (word : Field) where
  any_word : (f : Field) → is_null_word (nulls ++ word ∷ []) f ≡ (is_null_word nulls f || is_null_word (word ∷ []) f)
  any_word f = list_any-append (λ (w : Field). bytes_eq w f) nulls (word ∷ [])

  pub null_still : (f : Field) → is_null_by nulls f ≡ true → is_null_by (nulls ++ word ∷ []) f ≡ true
  null_still f is =
      ap (λ b. (length f == 0) || b) (any_word f) ∙ either_true (length f == 0) (is_null_word nulls f) (is_null_word (word ∷ []) f) is

  pub null_now : is_null_by (nulls ++ word ∷ []) word ≡ true
  null_now =
      ap (λ b. (length word == 0) || b) (any_word word) ∙ last_true (length word == 0) (is_null_word nulls word) (bytes_eq word word) ((bytes_eq-Decides word word).1 refl)

pub adds_none : (l : Logical) → AddsNulls l l
adds_none l = record { same = refl; preserved = λ w is. is }

pub adds_then : (a b c : Logical) → AddsNulls a b → AddsNulls b c → AddsNulls a c
adds_then a b c one two = record {
  same = two.same ∙ ap (λ (l : Logical). record l { nulls = c.nulls }) one.same;
  preserved = λ w is. two.preserved w (one.preserved w is);
}

null_said : (a : Bool) (why other : Refusal) (said : Logical) → (if a then Err why else Ok said) ≡ Err other → a ≡ true
null_said true why other said is = refl
null_said false why other said is = absurd (cc)

pub null_was : (l : Logical) (word : Field) (why : Refusal) → null_given l word ≡ Err why → is_null_by l.nulls word ≡ true
null_was l word why is = null_said (is_null_by l.nulls word) _ why (record l { nulls = l.nulls ++ word ∷ [] }) is

module _ (l new : Logical) (word : Field) (given : null_given l word ≡ Ok new) where
  added : new ≡ record l { nulls = l.nulls ++ word ∷ [] }
  added = other_of (is_null_by l.nulls word) _ (record l { nulls = l.nulls ++ word ∷ [] }) new given

  pub adds_word : AddsNulls l new
  adds_word = record {
    same = added ∙ ap (λ (ns : List Field). record l { nulls = ns }) (sym (ap (λ (m : Logical). m.nulls) added));
    preserved = λ w is. ap (λ (m : Logical). is_null_by m.nulls w) added ∙ null_still l.nulls word w is;
  }

  pub is_added : is_null_by new.nulls word ≡ true
  is_added = ap (λ (m : Logical). is_null_by m.nulls word) added ∙ null_now l.nulls word

-- the same, if memory may be refused
pub adds_done : (l new : Logical) (word : Field) (r : Result (Unit {0}) DeclareError) → Does (null_given l word) l new r → OnOk r (AddsNulls l new)
adds_done l new word (Ok done) is = adds_word l new word is
adds_done l new word (Err why) is = tt

pub null_done : (l new : Logical) (word : Field) (r : Result (Unit {0}) DeclareError) → Does (null_given l word) l new r → OnOk r (IsTrue (is_null_by new.nulls word))
null_done l new word (Ok done) is = is_added l new word is
null_done l new word (Err why) is = tt

-- a column of texts has no nulls, and another one those that were lent
pub text_nulls : (nulls : List Field) (column : Column) → is_text column.kind ≡ true → HasNullsOf nulls column
text_nulls nulls column text = λ plain word there. absurd (not_both (is_text column.kind) text plain)

pub column_nulls : (r : Result (Unit {0}) DeclareError) (nulls : List Field) (column : Column) (lent : List (Vec ℕ Global)) → lent ≡ column.nulls.items
    → OnOk r ((word : Field) → Contains (map (λ (w : Vec ℕ Global). w.items) lent) word → IsTrue (is_null_by nulls word)) → OnOk r (HasNullsOf nulls column)
column_nulls (Ok done) nulls column lent value all = λ plain word there.
    all word (subst (λ (ws : List (Vec ℕ Global)). Contains (map (λ (w : Vec ℕ Global). w.items) ws) word) (sym value) there)
column_nulls (Err why) nulls column lent value all = tt

-- the nulls of a column are nulls of a schema with more of them
pub nulls_still : (old new : Logical) (column : Column) → AddsNulls old new → HasNullsOf old.nulls column → HasNullsOf new.nulls column
nulls_still old new column adds has = λ plain word there. adds.preserved word (has plain word there)
