-- Which queries and predicates fields spell.
use Rattle.std.proofs.Common.{◌≡◌, true≢false, true, ◌⊎◌, nat_le, codes, if◌then◌else◌, option_and_then, inl, inr, ℕ, Bool, false, not, ◌&&◌, ◌||◌, List, [], ◌∷◌, ◌++◌, length, Option, Some, None, MatchOption, ap, ap₂, sym, ◌∙◌, refl, subst, arith}
use Rattle.std.specs.Option.{option_or}
use Rattle.std.specs.Str.{bytes_eq}
use Rattle.std.proofs.lemmas.Bool.{cases_Bool, cases_lt}
use Rattle.std.proofs.lemmas.Bool.Decides.{nat_tests}
use Rattle.std.proofs.lemmas.List.Folds.{find-append}
use Rattle.std.proofs.lemmas.List.Quantifiers.{position-Some}
use Rattle.std.proofs.lemmas.Option.{option_and_then_some}
use Rattle.bsi_rows.specs.Answers.{columns_of_pred, columns_of_total, missing_column, missing_of}
use Rattle.bsi_schema.specs.Columns.{AreNamed, Declared, NamedColumn, no_column, position_of}
use Rattle.bsi_rows.specs.Rows.{Entries, holds}
use Rattle.bsi_rows.specs.declared.query.Pred.{Pred, All, Compare, Columns, Null, Both', Either', Not'}
use Rattle.bsi_rows.specs.declared.query.Query.{Query}
use Rattle.bsi_rows.specs.declared.query.Total.{Total}
use Rattle.bsi_rows.specs.declared.query.Total.TheVariants.{Count, Sum, Least, Greatest, Median, Rows}
use Rattle.bsi_syntax.specs.declared.predicates.Pending.{Pending}
use Rattle.bsi_syntax.specs.declared.predicates.Pending.TheVariants.{Nothing, Column, Comparison}
use Rattle.bsi_syntax.specs.Events.{checked_total, column_total, total_of, total_of_column, IsQuery}
use Rattle.bsi_rows.specs.Fields.{Field}
use Rattle.bsi_syntax.specs.Postfix.{after_fields, begun, plain, ready, State}
use Rattle.bsi_syntax.specs.Predicates.{compares_columns, IsPlainPredicate, IsPredicate, Spells}
use Rattle.bsi_syntax.specs.Vocabularies.{schema_vocabulary, NameNoWord, Words}
use Rattle.bsi_syntax.proofs.SpellReading.{is_read, is_spelled, only_at}
use Rattle.bsi_syntax.proofs.SpellWords.{if_same, mapped, none_is_some, schema_names, some_same}

abbrev with : List Field → Total → Total × List Field
with rest total = (total, rest)

-- a total and the fields of its predicate
abbrev pub with_rest : Total → List Field → Option (Total × List Field)
with_rest total rest = Some (total, rest)

-- a record asks for a total that was found, over the rows of a predicate that its other fields are
abbrev pub AsksBy : (List Field → Pred → Type 0) → Option (Total × List Field) → Query → Type 0
AsksBy Is found query = MatchOption found ⊥ (λ (total, rest). (query.total ≡ total) × Is rest query.pred)

module _ (Is : List Field → Pred → Type 0) (found : Option (Total × List Field)) where
  -- no total, no query
  pub no_total_query : None ≡ found → (query : Query) → AsksBy Is found query → ⊥
  no_total_query none query is = subst (λ found. AsksBy Is found query) (sym none) is

  -- a total and no predicate, no query
  pub no_predicate_query : (total : Total) (rest : List Field) → with_rest total rest ≡ found → ((P : Pred) → Is rest P → ⊥) → (query : Query) → AsksBy Is found query → ⊥
  no_predicate_query total rest at none query is =
      let both : (query.total ≡ total) × Is rest query.pred = subst (λ found. AsksBy Is found query) (sym at) is in none query.pred both.1

  -- a query of this total has the rows of a predicate that the others are
  pub its_pred : (total : Total) (rest : List Field) → with_rest total rest ≡ found → (query : Query) → AsksBy Is found query → (P : Pred) × Is rest P
  its_pred total rest at query is =
      let both : (query.total ≡ total) × Is rest query.pred = subst (λ found. AsksBy Is found query) (sym at) is in (query.pred, both.1)

  -- a total and a predicate are a query
  pub is_query : (query : Query) (rest : List Field) → with_rest query.total rest ≡ found → Is rest query.pred → AsksBy Is found query
  is_query query rest at is = subst (λ found. AsksBy Is found query) at (refl, is)

-- whether some predicate is spelled
alone : (pending : Pending) (stack : List Pred) → ((P : Pred) × (begun pending stack ≡ ready (P ∷ []))) ⊎ ((P : Pred) → begun pending stack ≡ ready (P ∷ []) → ⊥)
unfolding only_at
alone Nothing [] = inr (λ P is. none_is_some P (ap only_at is))
alone Nothing (P ∷ []) = inl (P, refl)
alone Nothing (P ∷ Q ∷ stack) = inr (λ R is. none_is_some R (ap only_at is))
alone (Column c) stack = inr (λ P is. none_is_some P (ap only_at is))
alone (Comparison c op) stack = inr (λ P is. none_is_some P (ap only_at is))

one_of : (found : Option State) → ((P : Pred) × (found ≡ ready (P ∷ []))) ⊎ ((P : Pred) → found ≡ ready (P ∷ []) → ⊥)
unfolding only_at
one_of None = inr (λ P is. none_is_some P (ap only_at is))
one_of (Some state) = alone state.0 state.1

pub spelled_or_not : (words : Words) → NameNoWord words → (fields : List Field) → ((P : Pred) × Spells words fields P) ⊎ ((P : Pred) → Spells words fields P → ⊥)
spelled_or_not words named fields = elim (one_of (after_fields words fields Nothing [])) [
  | inl found ↦ inl (found.0, is_spelled words fields found.0 found.1)
  | inr none ↦ inr (λ P spelled. none (plain P) (is_read words named fields P spelled))
]

-- two predicates that the same fields spell are one, wherever their boxes lie
pub same_plain : (words : Words) → NameNoWord words → (fields : List Field) (P Q : Pred) → Spells words fields P → Spells words fields Q → plain P ≡ plain Q
unfolding only_at
same_plain words named fields P Q one two =
    some_same (plain P) (plain Q) (ap only_at (sym (is_read words named fields P one) ∙ is_read words named fields Q two))

-- a predicate means the same, wherever its boxes lie
holds_plain : (P : Pred) (row : Entries) → holds (plain P) row ≡ holds P row
holds_plain All row = refl
holds_plain (Compare c op n) row = refl
holds_plain (Columns a op b) row = refl
holds_plain (Null c) row = refl
holds_plain (Both' p first q second) row = ap₂ (λ a b. a && b) (holds_plain first row) (holds_plain second row)
holds_plain (Either' p first q second) row = ap₂ (λ a b. a || b) (holds_plain first row) (holds_plain second row)
holds_plain (Not' p pred) row = ap not (holds_plain pred row)

-- two predicates that the same fields spell mean the same
pub same_meaning : (words : Words) → NameNoWord words → (fields : List Field) (P Q : Pred) → Spells words fields P → Spells words fields Q
    → (row : Entries) → holds P row ≡ holds Q row
same_meaning words named fields P Q one two row =
    sym (holds_plain P row) ∙ ap (λ R. holds R row) (same_plain words named fields P Q one two) ∙ holds_plain Q row

-- a column that is there is not missing
pub not_missing : (columns : List NamedColumn) (name : Field) (c : ℕ) → position_of columns name ≡ Some c → missing_of (length columns) (c ∷ []) ≡ None
not_missing columns name c at =
    let found = position-Some (λ (column : NamedColumn). bytes_eq name column.name) columns c no_column at in
    let below : nat_le (length columns) c ≡ false = grind (arith, nat_tests, found.0) in
    ap (λ b. if b then Some c else None) below

pub neither_missing : (count : ℕ) (first second : List ℕ) → missing_of count first ≡ None → missing_of count second ≡ None → missing_of count (first ++ second) ≡ None
neither_missing count first second one two = find-append (λ k. nat_le count k) first second ∙ ap (λ o. option_or o (missing_of count second)) one ∙ two

-- the columns of a predicate that is spelled are there
pub none_missing : (schema : Declared) (fields : List Field) (P : Pred) → Spells (schema_vocabulary schema) fields P → missing_of (length schema.columns) (columns_of_pred P) ≡ None
unfolding Spells
none_missing schema fields All spelled = refl
none_missing schema fields (Compare c op n) spelled = not_missing schema.columns spelled.0 c spelled.4
none_missing schema fields (Columns a op b) spelled =
    neither_missing (length schema.columns) (a ∷ []) (b ∷ []) (not_missing schema.columns spelled.0 a spelled.3) (not_missing schema.columns spelled.1 b spelled.5)
none_missing schema fields (Null c) spelled = not_missing schema.columns spelled.0 c spelled.2
none_missing schema fields (Both' p first q second) spelled =
    neither_missing _ (columns_of_pred first) (columns_of_pred second) (none_missing schema spelled.0 first spelled.3) (none_missing schema spelled.1 second spelled.4)
none_missing schema fields (Either' p first q second) spelled =
    neither_missing _ (columns_of_pred first) (columns_of_pred second) (none_missing schema spelled.0 first spelled.3) (none_missing schema spelled.1 second spelled.4)
none_missing schema fields (Not' p pred) spelled = none_missing schema spelled.0 pred spelled.2

-- whether the fields are a predicate
pub predicate_or_not : (words : Words) → NameNoWord words → (fields : List Field) → ((P : Pred) × IsPredicate words fields P) ⊎ ((P : Pred) → IsPredicate words fields P → ⊥)
predicate_or_not words named fields = elim (cases_lt 1000 (length fields)) [
  | inl many ↦ inr (λ P is. omega (arith, many, is.0))
  | inr few ↦ elim (spelled_or_not words named fields) [
    | inl found ↦ inl (found.0, (few, found.1))
    | inr none ↦ inr (λ P is. none P is.1)
  ]
]

-- wherever its boxes lie, a predicate compares columns or not
compares_plain : (P : Pred) → compares_columns (plain P) ≡ compares_columns P
compares_plain All = refl
compares_plain (Compare c op n) = refl
compares_plain (Columns a op b) = refl
compares_plain (Null c) = refl
compares_plain (Both' p first q second) = ap₂ (λ a b. a || b) (compares_plain first) (compares_plain second)
compares_plain (Either' p first q second) = ap₂ (λ a b. a || b) (compares_plain first) (compares_plain second)
compares_plain (Not' p pred) = compares_plain pred

-- where one that is spelled compares columns, each that the same fields spell does
pub not_plain : (words : Words) → NameNoWord words → (fields : List Field) (P : Pred) → IsPredicate words fields P → compares_columns P ≡ true
    → (Q : Pred) → IsPlainPredicate words fields Q → ⊥
not_plain words named fields P is compares Q other =
    let same : compares_columns P ≡ compares_columns Q =
    sym (compares_plain P) ∙ ap compares_columns (same_plain words named fields P Q is.1 other.0.1) ∙ compares_plain Q in
    true≢false (sym compares ∙ same ∙ other.1)

-- whether the fields are a predicate without such a comparison
plain_or_not : (words : Words) → NameNoWord words → (fields : List Field)
    → ((P : Pred) × IsPlainPredicate words fields P) ⊎ ((P : Pred) → IsPlainPredicate words fields P → ⊥)
plain_or_not words named fields = elim (predicate_or_not words named fields) [
  | inr none ↦ inr (λ P is. none P is.0)
  | inl found ↦ elim (cases_Bool (compares_columns found.0)) [
    | inl compares ↦ inr (not_plain words named fields found.0 found.1 compares)
    | inr plain ↦ inl (found.0, (found.1, plain))
  ]
]

-- whether the fields are a query
pub query_or_not : (schema : Declared) → AreNamed schema.columns → (fields : List Field) → ((query : Query) × IsQuery schema fields query) ⊎ ((query : Query) → IsQuery schema fields query → ⊥)
query_or_not schema named fields = by (total_of (schema_vocabulary schema) fields) refl
  where
    Is : List Field → Pred → Type 0
    Is rest P = IsPlainPredicate (schema_vocabulary schema) rest P

    by : (found : Option (Total × List Field)) → found ≡ total_of (schema_vocabulary schema) fields → ((query : Query) × IsQuery schema fields query) ⊎ ((query : Query) → IsQuery schema fields query → ⊥)
    by None is = inr (no_total_query Is (total_of (schema_vocabulary schema) fields) is)
    by (Some found) is = elim (plain_or_not (schema_vocabulary schema) (schema_names schema named) found.1) [
      | inl that ↦ inl (record { total = found.0; pred = that.0 }, is_query Is (total_of (schema_vocabulary schema) fields) (record { total = found.0; pred = that.0 }) found.1 is that.1)
      | inr none ↦ inr (no_predicate_query Is (total_of (schema_vocabulary schema) fields) found.0 found.1 is none)
    ]

-- what a query says of the total that is found
query_at : (schema : Declared) (fields : List Field) (query : Query) {G : Type 0} → IsQuery schema fields query
    → ((found : Total × List Field) → total_of (schema_vocabulary schema) fields ≡ Some found → query.total ≡ found.0 → IsPlainPredicate (schema_vocabulary schema) found.1 query.pred → G) → G
query_at schema fields query {G} is k = by (total_of (schema_vocabulary schema) fields) refl is
  where
    by : (found : Option (Total × List Field)) → total_of (schema_vocabulary schema) fields ≡ found → MatchOption found ⊥ (λ found. (query.total ≡ found.0) × IsPlainPredicate (schema_vocabulary schema) found.1 query.pred) → G
    by None at none = absurd none
    by (Some found) at parts = k found at parts.0 parts.1

-- two queries that the same fields are ask for the same
pub same_query : (schema : Declared) → AreNamed schema.columns → (fields : List Field) (first second : Query) → IsQuery schema fields first → IsQuery schema fields second
    → (first.total ≡ second.total) × ((row : Entries) → holds first.pred row ≡ holds second.pred row)
same_query schema named fields first second one two =
    query_at schema fields first one λ found at total pred.
    query_at schema fields second two λ other at_other total_other pred_other.
    let same : other ≡ found = some_same other found (sym at_other ∙ at) in (
      total ∙ ap (λ (f : Total × List Field). f.0) (sym same) ∙ sym total_other,
      λ row. same_meaning (schema_vocabulary schema) (schema_names schema named) found.1 first.pred second.pred pred.0.1 (subst (λ (f : Total × List Field). Spells (schema_vocabulary schema) f.1 second.pred) same pred_other.0.1) row,
    )

-- the column of a total is there
makes_one : (word : Field) (makes : ℕ → Total) (c : ℕ) → total_of_column word ≡ Some makes → columns_of_total (makes c) ≡ c ∷ []
makes_one word makes c is =
    if_same word (codes "sum") (Some Sum) _ (Some makes) is (λ _ at. ap (λ (m : ℕ → Total). columns_of_total (m c)) (sym (some_same Sum makes at))) λ is.
    if_same word (codes "least") (Some Least) _ (Some makes) is (λ _ at. ap (λ (m : ℕ → Total). columns_of_total (m c)) (sym (some_same Least makes at))) λ is.
    if_same word (codes "greatest") (Some Greatest) _ (Some makes) is (λ _ at. ap (λ (m : ℕ → Total). columns_of_total (m c)) (sym (some_same Greatest makes at))) λ is.
    if_same word (codes "median") (Some Median) _ (Some makes) is (λ _ at. ap (λ (m : ℕ → Total). columns_of_total (m c)) (sym (some_same Median makes at))) λ is.
    absurd (none_is_some makes is)

-- a total that may be asked is the one that was asked
pub checked_same : (words : Words) (asked total : Total) → checked_total words asked ≡ Some total → total ≡ asked
checked_same words (Sum c) total is = by (words.sums c) is
  where
    by : (b : Bool) → (if b then Some (Sum c) else None) ≡ Some total → total ≡ Sum c
    by true is = sym (some_same (Sum c) total is)
    by false is = absurd (none_is_some total is)
checked_same words asked total is = sym (some_same asked total is)

column_total_there : (schema : Declared) (word : Field) (rest : List Field) (found : Total × List Field) → column_total (schema_vocabulary schema) word rest ≡ Some found
    → missing_of (length schema.columns) (columns_of_total found.0) ≡ None
column_total_there schema word [] found is = absurd (none_is_some found is)
column_total_there schema word (name ∷ rest) found is =
    let words = schema_vocabulary schema in
    let of_name : (ℕ → Total) → Option Total = λ makes. option_and_then (λ c. checked_total words (makes c)) (position_of schema.columns name) in
    mapped (with rest) (option_and_then of_name (total_of_column word)) found is λ total asked is.
    option_and_then_some of_name (total_of_column word) total asked λ makes word_is at.
    option_and_then_some (λ c. checked_total words (makes c)) (position_of schema.columns name) total at λ c index checked.
    ap (λ (f : Total × List Field). missing_of (length schema.columns) (columns_of_total f.0)) (sym (some_same (with rest total) found is))
    ∙ ap (λ t. missing_of (length schema.columns) (columns_of_total t)) (checked_same words (makes c) total checked)
    ∙ ap (missing_of (length schema.columns)) (makes_one word makes c word_is) ∙ not_missing schema.columns name c index

pub total_there : (schema : Declared) (fields : List Field) (found : Total × List Field) → total_of (schema_vocabulary schema) fields ≡ Some found
    → missing_of (length schema.columns) (columns_of_total found.0) ≡ None
total_there schema [] found is = absurd (none_is_some found is)
total_there schema (word ∷ rest) found is =
    if_same word (codes "count") _ _ (Some found) is
    (λ _ at. ap (λ (f : Total × List Field). missing_of (length schema.columns) (columns_of_total f.0)) (sym (some_same (with rest Count) found at))) λ is.
    if_same word (codes "list") _ _ (Some found) is
    (λ _ at. ap (λ (f : Total × List Field). missing_of (length schema.columns) (columns_of_total f.0)) (sym (some_same (with rest Rows) found at))) λ is.
    column_total_there schema word rest found is

-- each column that a query reads is there
pub query_is_there : (schema : Declared) (fields : List Field) (query : Query) → IsQuery schema fields query → missing_column (length schema.columns) query ≡ None
query_is_there schema fields query is =
    query_at schema fields query is λ found at total pred.
    neither_missing (length schema.columns) (columns_of_total query.total) (columns_of_pred query.pred)
    (ap (λ t. missing_of (length schema.columns) (columns_of_total t)) total ∙ total_there schema fields found at) (none_missing schema found.1 query.pred pred.0.1)
