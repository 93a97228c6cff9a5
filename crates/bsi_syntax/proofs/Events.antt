-- The events of records: those that are no query, and the queries.
use Rattle.std.proofs.Common.{◌≡◌, ◌≢◌, ℕ, Bool, true, false, List, [], ◌∷◌, length, drop, Option, Some, None, MatchOption, option_map, option_and_then, IsSomeAnd, if◌then◌else◌, ℤ, codes, refl, sym, ◌∙◌, ap, subst}
use Rattle.std.specs.Str.{bytes_eq}
use Rattle.csv.specs.Records.{field_at}
use Rattle.bsi_rows.specs.declared.event.Event.{Event}
use Rattle.bsi_rows.specs.declared.event.Event.TheVariants.{Submit, Load, Close, Ask}
use Rattle.bsi_schema.specs.Columns.{Declared}
use Rattle.bsi_rows.specs.declared.query.Query.{Query}
use Rattle.bsi_syntax.specs.Events.{IsEvent, IsQuery, feeder_event, only_feeder, plain_event, total_of}
use Rattle.bsi_syntax.specs.Predicates.{IsPlainPredicate}
use Rattle.bsi_rows.specs.Fields.{Field}
use Rattle.bsi_syntax.specs.Numbers.{feeder_of, values_in}
use Rattle.bsi_syntax.specs.Reading.{IsReadAs}
use Rattle.bsi_syntax.specs.Vocabularies.{schema_vocabulary}
use Rattle.bsi_syntax.proofs.Fields.{behind_word, no_field}
use Rattle.bsi_syntax.proofs.SpellWords.{none_is_some, same_bytes}

-- a record that begins with this word
pub begins : (fields : List Field) (word own : Field) → field_at fields 0 ≡ Some word → bytes_eq word own ≡ true → fields ≡ own ∷ drop 1 fields
begins fields word own first is = behind_word fields word first ∙ ap (λ w. w ∷ drop 1 fields) (same_bytes word own is)

-- ---- what a record of a word asks for

pub submitted : (schema : Declared) (fields : List Field) → plain_event schema (codes "submit" ∷ drop 1 fields)
    ≡ option_and_then (λ f. option_map (Submit f) (values_in schema.signed (drop 2 fields))) (option_and_then feeder_of (field_at fields 1))
unfolding field_at values_in
submitted schema [] = refl
submitted schema (word ∷ []) = refl
submitted schema (word ∷ a ∷ []) = refl
submitted schema (word ∷ a ∷ value ∷ rest) = refl

-- the feeder that is read from a field, if the field is there
pub fed_by : {B : Type 0} (text : B → Field) (field : Option B) (read : Option ℕ) → MatchOption field (read ≡ None) (λ x. read ≡ feeder_of (text x))
    → read ≡ option_and_then feeder_of (option_map text field)
fed_by text None read is = is
fed_by text (Some x) read is = is

pub loaded : (schema : Declared) (fields : List Field) → plain_event schema (codes "load" ∷ fields) ≡ option_map Load (only_feeder fields)
loaded schema [] = refl
loaded schema (text ∷ []) = by (feeder_of text)
  where
    by : (o : Option ℕ) → option_and_then (λ f. feeder_event schema (codes "load") f []) o ≡ option_map Load o
    by None = refl
    by (Some f) = refl
loaded schema (text ∷ value ∷ rest) = by (feeder_of text)
  where
    by : (o : Option ℕ) → option_and_then (λ f. feeder_event schema (codes "load") f (value ∷ rest)) o ≡ None
    by None = refl
    by (Some f) = refl

pub closed : (schema : Declared) (fields : List Field) → plain_event schema (codes "close" ∷ fields) ≡ option_map Close (only_feeder fields)
closed schema [] = refl
closed schema (text ∷ []) = by (feeder_of text)
  where
    by : (o : Option ℕ) → option_and_then (λ f. feeder_event schema (codes "close") f []) o ≡ option_map Close o
    by None = refl
    by (Some f) = refl
closed schema (text ∷ value ∷ rest) = by (feeder_of text)
  where
    by : (o : Option ℕ) → option_and_then (λ f. feeder_event schema (codes "close") f (value ∷ rest)) o ≡ None
    by None = refl
    by (Some f) = refl

pub not_alone : (fields : List Field) → length fields ≢ 2 → only_feeder (drop 1 fields) ≡ None
not_alone [] other = refl
not_alone (word ∷ []) other = refl
not_alone (word ∷ text ∷ []) other = absurd (other refl)
not_alone (word ∷ text ∷ value ∷ rest) other = refl

-- ---- a record with another word

module _ (schema : Declared) (word : Field) (no_submit : bytes_eq word (codes "submit") ≡ false) (no_load : bytes_eq word (codes "load") ≡ false)
    (no_close : bytes_eq word (codes "close") ≡ false) where
  other_fed : (f : ℕ) (rest : List Field) → feeder_event schema word f rest ≡ None
  other_fed f [] = rw (no_submit, no_load, no_close) refl
  other_fed f (value ∷ rest) = rw no_submit refl

  other_plain : (rest : List Field) → plain_event schema (word ∷ rest) ≡ None
  other_plain [] = refl
  other_plain (text ∷ rest) = by_feeder (feeder_of text)
    where
      by_feeder : (o : Option ℕ) → option_and_then (λ f. feeder_event schema word f rest) o ≡ None
      by_feeder None = refl
      by_feeder (Some f) = other_fed f rest

  -- so it asks for nothing, if for no query
  pub no_event : (fields : List Field) → field_at fields 0 ≡ Some word → ((query : Query) → IsQuery schema fields query → ⊥)
      → (event : Event) → IsEvent schema fields event → ⊥
  no_event fields first none event is = by (ap (plain_event schema) (behind_word fields word first) ∙ other_plain (drop 1 fields)) event is
    where
      by : plain_event schema fields ≡ None → (event : Event) → IsEvent schema fields event → ⊥
      by absent (Submit f row) is = none_is_some (Submit f row) (sym absent ∙ is)
      by absent (Load f) is = none_is_some (Load f) (sym absent ∙ is)
      by absent (Close f) is = none_is_some (Close f) (sym absent ∙ is)
      by absent (Ask query) is = none query is

pub no_word : (schema : Declared) (fields : List Field) → field_at fields 0 ≡ None → (event : Event) → IsEvent schema fields event → ⊥
no_word schema fields none event is = by event (subst (λ fs. IsEvent schema fs event) (no_field fields 0 none) is)
  where
    by : (event : Event) → IsEvent schema [] event → ⊥
    by (Submit f row) is = cc
    by (Load f) is = cc
    by (Close f) is = cc
    by (Ask query) is = is

-- ---- no event but a query is a query

never_asks : (schema : Declared) (word : Field) (f : ℕ) (rest : List Field) (query : Query) → feeder_event schema word f rest ≡ Some (Ask query) → ⊥
never_asks schema word f [] query is = by (bytes_eq word (codes "submit")) (bytes_eq word (codes "load")) (bytes_eq word (codes "close")) is
  where
    by : (a b d : Bool) → (if a then Some (Submit f []) else (if b then Some (Load f) else (if d then Some (Close f) else None))) ≡ Some (Ask query) → ⊥
    by true b d is = cc
    by false true d is = cc
    by false false true is = cc
    by false false false is = cc
never_asks schema word f (value ∷ rest) query is = by (bytes_eq word (codes "submit")) (values_in schema.signed (value ∷ rest)) is
  where
    by : (a : Bool) (row : Option (List (Option ℤ))) → (if a then option_map (Submit f) row else None) ≡ Some (Ask query) → ⊥
    by true None is = cc
    by true (Some row) is = cc
    by false row is = cc

plain_never_asks : (schema : Declared) (fields : List Field) (query : Query) → plain_event schema fields ≡ Some (Ask query) → ⊥
plain_never_asks schema [] query is = cc
plain_never_asks schema (word ∷ []) query is = cc
plain_never_asks schema (word ∷ text ∷ rest) query is = by (feeder_of text) is
  where
    by : (o : Option ℕ) → option_and_then (λ f. feeder_event schema word f rest) o ≡ Some (Ask query) → ⊥
    by None is = cc
    by (Some f) is = never_asks schema word f rest query is

-- what a record that asks for no query is read as
pub plain_read : (schema : Declared) (fields : List Field) → total_of (schema_vocabulary schema) fields ≡ None
    → (read : Option Event) → read ≡ plain_event schema fields → IsReadAs (IsEvent schema fields) read
plain_read schema fields no_total read is = by read is
  where
    no_query : (query : Query) → IsQuery schema fields query → ⊥
    no_query query asked = subst (λ o. MatchOption o ⊥ (λ found. (query.total ≡ found.0) × IsPlainPredicate (schema_vocabulary schema) found.1 query.pred)) no_total asked

    none : plain_event schema fields ≡ None → (event : Event) → IsEvent schema fields event → ⊥
    none absent (Submit f row) is = none_is_some (Submit f row) (sym absent ∙ is)
    none absent (Load f) is = none_is_some (Load f) (sym absent ∙ is)
    none absent (Close f) is = none_is_some (Close f) (sym absent ∙ is)
    none absent (Ask query) is = no_query query is

    some : (event : Event) → plain_event schema fields ≡ Some event → IsEvent schema fields event
    some (Submit f row) there = there
    some (Load f) there = there
    some (Close f) there = there
    some (Ask query) there = absurd (plain_never_asks schema fields query there)

    by : (read : Option Event) → read ≡ plain_event schema fields → IsReadAs (IsEvent schema fields) read
    by None is = none (sym is)
    by (Some event) is = some event (sym is)

-- ---- an event that is made of what was read

-- a part that was read makes an event
pub mapped : {A B : Type 0} (make : A → B) (read : Option A) (made : Option B) → MatchOption read (made ≡ None) (λ x. IsSomeAnd made (λ y. y ≡ make x))
    → made ≡ option_map make read
mapped make None made is = is
mapped make (Some x) None is = absurd is
mapped make (Some x) (Some y) is = ap (λ v. Some v) is

-- the same, by what is known of each value that is made
pub mapped_by : {A B : Type 0} (make : A → B) (P : A → B → Type 0) → ((x : A) (y : B) → P x y → y ≡ make x) → (read : Option A) (made : Option B)
    → MatchOption read (made ≡ None) (λ x. IsSomeAnd made (P x)) → made ≡ option_map make read
mapped_by make P gives None made is = is
mapped_by make P gives (Some x) None is = absurd is
mapped_by make P gives (Some x) (Some y) is = ap (λ v. Some v) (gives x y is)

-- a query that was read, or that there is none
pub query_event : (schema : Declared) (fields : List Field)
    → (((query : Query) → IsQuery schema fields query → ⊥) → (event : Event) → IsEvent schema fields event → ⊥)
    → (read : Option Query) (made : Option Event)
    → IsReadAs (IsQuery schema fields) read
    → MatchOption read (made ≡ None) (λ x. IsSomeAnd made (λ y. y ≡ Ask x))
    → IsReadAs (IsEvent schema fields) made
query_event schema fields other None made none is = subst (IsReadAs (IsEvent schema fields)) (sym is) (other none)
query_event schema fields other (Some query) None asked is = absurd is
query_event schema fields other (Some query) (Some event) asked is = subst (IsEvent schema fields) (sym is) asked
