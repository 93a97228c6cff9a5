-- The records that declare something: what they lead to, and what a setup keeps.
use Rattle.std.proofs.Common.{◌≡◌, ℕ, ◌<◌, ◌≤◌, Bool, true, false, ◌&&◌, nat_le, nat_lt, List, [], ◌∷◌, ◌++◌, length, drop, Option, Some, None, option_map, option_and_then, unwrap_or, if◌then◌else◌, Result, Ok, Err, codes, refl, sym, ◌∙◌, ap, subst, arith}
use Rattle.std.specs.Prelude.{IfOk, OnErr}
use Rattle.std.specs.Str.{bytes_eq}
use Rattle.std.proofs.lemmas.Bool.Decides.{nat_tests}
use Rattle.std.proofs.lemmas.List.{length-append}
use Rattle.std.proofs.lemmas.List.Elements.{All-push}
use Rattle.csv.specs.Records.{field_at}
use Rattle.bsi_schema.specs.Columns.{Declared}
use Rattle.bsi_rows.specs.Fields.{Field}
use Rattle.bsi_syntax.specs.Numbers.{number_between, spelled_number}
use Rattle.bsi_syntax.specs.declared.setups.DeclaredTable.{DeclaredTable}
use Rattle.bsi_syntax.specs.Setups.{Setup, capacities_after, column_after, declared_after, limit_of, only_number, table_after, IsChange, IsSetup}
use Rattle.bsi_syntax.proofs.Fields.{behind_word, no_field}

-- ---- changes

-- a change of a part
pub changed_by : {A B : Type 0} (f : A → B) (after : Option A) (old new : A) (done : Bool) → IsChange after old new done → IsChange (option_map f after) (f old) (f new) done
changed_by f None old new done change = (change.0, ap f change.1)
changed_by f (Some x) old new done change = (change.0, ap f change.1)

-- what holds of the old and of what comes after it holds of the new
pub unchanged : {T E : Type 0} (P : T → Type 0) (r : Result Bool E) (after : Option T) (old new : T)
    → IfOk r (λ done. IsChange after old new done) → OnErr r (new ≡ old) → P old → P (unwrap_or after old) → P new
unchanged P (Ok done) after old new change same before later = subst P (sym change.1) later
unchanged P (Err e) after old new change same before later = subst P (sym same) before

-- ---- records of a table

pub table_empty : (table : DeclaredTable) (fields : List Field) → field_at fields 0 ≡ None → table_after table fields ≡ None
table_empty table fields none = ap (table_after table) (no_field fields 0 none)

module _ (table : DeclaredTable) (fields : List Field) (word : Field) (first : field_at fields 0 ≡ Some word) where
  pub table_column : bytes_eq word (codes "column") ≡ true
      → table_after table fields ≡ option_map (λ schema. record table { schema = schema }) (column_after table.schema (drop 1 fields))
  table_column is = ap (table_after table) (behind_word fields word first) ∙ rw is refl

  pub table_limit : bytes_eq word (codes "column") ≡ false → bytes_eq word (codes "limit") ≡ true
      → table_after table fields ≡ option_map (λ limit. record table { limit = limit }) (limit_of (drop 1 fields))
  table_limit other is = ap (table_after table) (behind_word fields word first) ∙ rw (other, is) refl

  pub table_other : bytes_eq word (codes "column") ≡ false → bytes_eq word (codes "limit") ≡ false → table_after table fields ≡ None
  table_other other another = ap (table_after table) (behind_word fields word first) ∙ rw (other, another) refl

-- ---- records of a setup

pub setup_empty : (before : Setup) (fields : List Field) → field_at fields 0 ≡ None → declared_after before fields ≡ None
setup_empty before fields none = ap (declared_after before) (no_field fields 0 none)

module _ (before : Setup) (fields : List Field) (word : Field) (first : field_at fields 0 ≡ Some word) where
  pub setup_feeder : bytes_eq word (codes "feeder") ≡ true
      → declared_after before fields ≡ option_map (λ capacities. record before { capacities = capacities }) (capacities_after before.capacities (drop 1 fields))
  setup_feeder is = ap (declared_after before) (behind_word fields word first) ∙ rw is refl

  pub setup_table : bytes_eq word (codes "feeder") ≡ false
      → declared_after before fields ≡ option_map (λ table. record before { table = table }) (table_after before.table fields)
  setup_table other =
      ap (declared_after before) (behind_word fields word first) ∙ rw other refl
      ∙ ap (λ fs. option_map (λ table. record before { table = table }) (table_after before.table fs)) (sym (behind_word fields word first))

-- ---- what a setup keeps

number_is_within : (least most : ℕ) (text : Field) (n : ℕ) → number_between least most text ≡ Some n → (least ≤ n) × (n ≤ most)
number_is_within least most text n is = by (spelled_number text) is
  where
    by_tests : (m : ℕ) (a b : Bool) → nat_le least m ≡ a → nat_le m most ≡ b → (if a && b then Some m else None) ≡ Some n → (least ≤ n) × (n ≤ most)
    by_tests m true true low high is =
        let same : m ≡ n = cc in
        let least_is : least ≤ m = grind (arith, nat_tests) in
        let most_is : m ≤ most = grind (arith, nat_tests) in
        (omega (arith, same, least_is), omega (arith, same, most_is))
    by_tests m true false low high is = absurd cc
    by_tests m false b low high is = absurd cc

    by : (o : Option ℕ) → option_and_then (λ m. if nat_le least m && nat_le m most then Some m else None) o ≡ Some n → (least ≤ n) × (n ≤ most)
    by None is = absurd cc
    by (Some m) is = by_tests m (nat_le least m) (nat_le m most) refl refl is

only_is_within : (most : ℕ) (fields : List Field) (n : ℕ) → only_number most fields ≡ Some n → (1 ≤ n) × (n ≤ most)
only_is_within most [] n is = absurd cc
only_is_within most (text ∷ []) n is = number_is_within 1 most text n is
only_is_within most (text ∷ another ∷ fields) n is = absurd cc

pub feeder_keeps : (capacities : List ℕ) (limit : ℕ) (fields : List Field) → IsSetup capacities limit
    → IsSetup (unwrap_or (capacities_after capacities fields) capacities) limit
feeder_keeps capacities limit fields is = by (nat_lt (length capacities) 64) (only_number 65536 fields) refl refl
  where
    by : (few : Bool) (o : Option ℕ) → nat_lt (length capacities) 64 ≡ few → only_number 65536 fields ≡ o
        → IsSetup (unwrap_or (if few then option_map (λ n. capacities ++ n ∷ []) o else None) capacities) limit
    by false o test number = is
    by true None test number = is
    by true (Some n) test number =
        let room : length capacities < 64 = grind (arith, nat_tests) in
        record {
          few = omega (arith, room, length-append capacities (n ∷ []));
          each = All-push (λ m. (1 ≤ m) × (m ≤ 65536)) capacities n is.each (only_is_within 65536 fields n number);
          some = is.some;
          most = is.most;
        }

pub limit_keeps : (capacities : List ℕ) (table : DeclaredTable) (fields : List Field) → IsSetup capacities table.limit
    → IsSetup capacities (unwrap_or {T = DeclaredTable} (table_after table fields) table).limit
limit_keeps capacities table [] is = is
limit_keeps capacities table (word ∷ fields) is =
    by (bytes_eq word (codes "column")) (bytes_eq word (codes "limit")) (column_after table.schema fields) (limit_of fields) refl
  where
    by : (a b : Bool) (columns : Option Declared) (o : Option ℕ) → limit_of fields ≡ o
        → IsSetup capacities (unwrap_or {T = DeclaredTable} (if a then option_map (λ schema. record table { schema = schema }) columns
        else (if b then option_map (λ limit. record table { limit = limit }) o else None)) table).limit
    by true b None o number = is
    by true b (Some after) o number = is
    by false false columns o number = is
    by false true columns None number = is
    by false true columns (Some n) number =
        let within = only_is_within 4294967296 fields n number in
        record { few = is.few; each = is.each; some = within.0; most = within.1 }
