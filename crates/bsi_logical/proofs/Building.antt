-- A schema after a record is one.
use Rattle.std.proofs.Common.{◌≡◌, ℕ, zero, suc, ◌+◌, ◌<◌, ◌≤◌, inl, inr, Bool, true, false, ◌&&◌, not, nat_lt, nat_le, List, [], ◌∷◌, ◌++◌, length, get_or, slice_set, position, Option, Some, None, is_none, is_some, option_map, option_and_then, if◌then◌else◌, Result, Ok, Err, refl, sym, ap, ap₂, ◌∙◌, subst, arith, length-append, length-set, codes, ℤ, pos, ◌+ℤ◌}
use Rattle.std.specs.Prelude.{int_le}
use Rattle.std.specs.List.{position_or_len}
use Rattle.std.specs.Option.{option_or}
use Rattle.std.specs.Str.{bytes_eq}
use Rattle.std.proofs.Math.ListN.{get_or-append}
use Rattle.std.proofs.Math.Seq.{get_or-append_seam}
use Rattle.std.proofs.lemmas.Bool.{cases_eq}
use Rattle.std.proofs.lemmas.Bool.Decides.{nat_tests}
use Rattle.std.proofs.lemmas.List.{get_or-set_other, get_or-set_same, set-get_or}
use Rattle.std.proofs.lemmas.List.Elements.{All-push, All-set}
use Rattle.std.proofs.lemmas.List.Sums.{fails_before_first}
use Rattle.std.proofs.lemmas.Option.{option_and_then_some}
use Rattle.std.proofs.lemmas.Slice.Eq.{bytes_eq-Decides}
use Rattle.bsi_digits.specs.Digits.{max_end}
use Rattle.bsi_schema.specs.Columns.{column_at, named_column, no_column, position_of, size_in, with_column as with_named, Declared, NamedColumn}
use Rattle.bsi_schema.specs.Names.{is_name}
use Rattle.bsi_schema.specs.Refusals.{name_refusal}
use Rattle.bsi_schema.specs.declared.form.Form.{Form}
use Rattle.bsi_schema.specs.declared.schema_error.SchemaError.{SchemaError}
use Rattle.bsi_rows.specs.Fields.{Field}
use Rattle.bsi_kinds.specs.Kinds.{IsKind}
use Rattle.bsi_kinds.specs.declared.kind.Kind.{Kind}
use Rattle.bsi_kinds.specs.declared.kind.Kind.TheVariants.{Decimal}
use Rattle.bsi_syntax.specs.Numbers.{offset_of}
use Rattle.bsi_syntax.specs.Setups.{column_after, form_in, limit_of, table_after, with_new_column, IsChange}
use Rattle.bsi_syntax.specs.declared.setups.DeclaredTable.{DeclaredTable}
use Rattle.bsi_logical.specs.Logical.{column_called, kind_of, name_of, title_at, title_of, IsLogical, Logical}
use Rattle.bsi_logical.specs.Records.{after_table, by_pair, column_said, kind_after, logical_table, of_column, pair_of, record_said, said_by, text_added, text_given, text_said, title_given, title_said, with_kind, with_limit, with_plain_column, with_title, word_of, Does}
use Rattle.bsi_logical.specs.declared.refusal.DeclareError.{DeclareError}
use Rattle.bsi_logical.specs.declared.refusal.DeclareError.TheVariants.{NoMemory, Refused}
use Rattle.bsi_logical.specs.declared.refusal.Refusal.TheVariants.{BadTitle, NameTaken, NoColumn, NoTexts, TitleDeclared, TitleTaken}
use Rattle.bsi_logical.specs.declared.logical.declaring.Word.TheVariants.{Column, Limit, Dialect as Dialect', Null, Title, Kind as Kind', Text as Text'}

-- ---- what no column is called by

pub none_passes : {X : Type 0} (p : X → Bool) (xs : List X) → position p xs ≡ None → (c : ℕ) (d : X) → c < length xs → p (get_or xs c d) ≡ false
none_passes p xs none c d within = by (nat_lt (position_or_len p xs) (length xs)) refl none
  where
    by : (b : Bool) → nat_lt (position_or_len p xs) (length xs) ≡ b → (if b then Some (position_or_len p xs) else None) ≡ None → p (get_or xs c d) ≡ false
    by true test is = absurd (cc)
    by false test is = let past : length xs ≤ position_or_len p xs = grind (arith, nat_tests) in fails_before_first p xs c d (omega arith)

same_bytes : (a : List ℕ) → bytes_eq a a ≡ true
same_bytes a = (bytes_eq-Decides a a).1 refl

pub other_bytes : (a b : List ℕ) → bytes_eq a b ≡ false → b ≡ a → ⊥
other_bytes a b other is = let same : bytes_eq a b ≡ true = ap (bytes_eq a) is ∙ same_bytes a in absurd (cc)

neither : {T : Type 0} (first second : Option T) → option_or first second ≡ None → (first ≡ None) × (second ≡ None)
neither None second is = (refl, is)
neither (Some x) second is = absurd (cc)

pub record IsUncalled (l : Logical) (name : Field) : Type 0 where
  pub titles : (c : ℕ) → c < length l.titles → title_of l c ≡ name → ⊥
  pub names : (c : ℕ) → c < length l.schema.columns → name_of l c ≡ name → ⊥

pub uncalled : (l : Logical) (name : Field) → column_called l name ≡ None → IsUncalled l name
uncalled l name none =
    let parts = neither (position (λ title. bytes_eq name title) l.titles) (position_of l.schema.columns name) none in
    record {
      titles = λ c within is. other_bytes name (title_of l c) (none_passes (λ title. bytes_eq name title) l.titles parts.0 c [] within) is;
      names = λ c within is. other_bytes name (name_of l c) (none_passes (λ (column : NamedColumn). bytes_eq name column.name) l.schema.columns parts.1 c no_column within) is;
    }

-- ---- the limit

-- the word of a record
later_word : (c d e f g : Bool)
    → (if c then Some Dialect' else (if d then Some Null else (if e then Some Title else (if f then Some Kind' else (if g then Some Text' else None))))) ≡ Some Limit → ⊥
later_word true d e f g is = cc
later_word false true e f g is = cc
later_word false false true f g is = cc
later_word false false false true g is = cc
later_word false false false false true is = cc
later_word false false false false false is = cc

later_word_2 : (b c d e f g : Bool)
    → (if b then Some Limit else (if c then Some Dialect' else (if d then Some Null else (if e then Some Title else (if f then Some Kind' else (if g then Some Text' else None)))))) ≡ Some Column → ⊥
later_word_2 true c d e f g is = cc
later_word_2 false true d e f g is = cc
later_word_2 false false true e f g is = cc
later_word_2 false false false true f g is = cc
later_word_2 false false false false true g is = cc
later_word_2 false false false false false true is = cc
later_word_2 false false false false false false is = cc

limit_word : (a b c d e f g : Bool)
    → (if a then Some Column else (if b then Some Limit else (if c then Some Dialect' else (if d then Some Null else (if e then Some Title else (if f then Some Kind' else (if g then Some Text' else None))))))) ≡ Some Limit
    → (a ≡ false) × (b ≡ true)
limit_word true b c d e f g is = absurd (cc)
limit_word false true c d e f g is = (refl, refl)
limit_word false false c d e f g is = absurd (later_word c d e f g is)

column_word : (a b c d e f g : Bool)
    → (if a then Some Column else (if b then Some Limit else (if c then Some Dialect' else (if d then Some Null else (if e then Some Title else (if f then Some Kind' else (if g then Some Text' else None))))))) ≡ Some Column
    → a ≡ true
column_word true b c d e f g is = refl
column_word false b c d e f g is = absurd (later_word_2 b c d e f g is)

limit_is : (word : Field) → word_of word ≡ Some Limit → (bytes_eq word (codes "column") ≡ false) × (bytes_eq word (codes "limit") ≡ true)
limit_is word is = limit_word (bytes_eq word (codes "column")) (bytes_eq word (codes "limit")) (bytes_eq word (codes "dialect")) (bytes_eq word (codes "null")) (bytes_eq word (codes "title")) (bytes_eq word (codes "kind")) (bytes_eq word (codes "text")) is

column_is : (word : Field) → word_of word ≡ Some Column → bytes_eq word (codes "column") ≡ true
column_is word is = column_word (bytes_eq word (codes "column")) (bytes_eq word (codes "limit")) (bytes_eq word (codes "dialect")) (bytes_eq word (codes "null")) (bytes_eq word (codes "title")) (bytes_eq word (codes "kind")) (bytes_eq word (codes "text")) is

-- a record of the limit keeps the columns
limit_keeps : (table : DeclaredTable) (fields : List Field) (after : DeclaredTable) → word_of (get_or fields 0 []) ≡ Some Limit
    → table_after table fields ≡ Some after → after.schema ≡ table.schema
limit_keeps table [] after is done = absurd (cc)
limit_keeps table (word ∷ fields) after is done =
    by (bytes_eq word (codes "column")) (bytes_eq word (codes "limit")) (column_after table.schema fields) (limit_of fields) (limit_is word is).0 done
  where
    by : (a b : Bool) (columns : Option Declared) (o : Option ℕ) → a ≡ false
        → (if a then option_map (λ schema. record table { schema = schema }) columns
        else (if b then option_map (λ limit. record table { limit = limit }) o else None)) ≡ Some after → after.schema ≡ table.schema
    by true b columns o not e = absurd (cc)
    by false false columns o not e = absurd (cc)
    by false true columns None not e = absurd (cc)
    by false true columns (Some n) not e = let same : record table { limit = n } ≡ after = cc in ap (λ (t : DeclaredTable). t.schema) (sym same)

-- the same columns
pub same_columns : (l : Logical) (table : DeclaredTable) → IsLogical l → table.schema ≡ l.schema → IsLogical (with_limit l table)
same_columns l table is same =
    subst (λ (schema : Declared). IsLogical (record l { schema = schema; limit = table.limit })) (sym same) (record {
      titled = is.titled;
      few = is.few;
      kinded = is.kinded;
      kinds = is.kinds;
      titles = is.titles;
      names = is.names;
      dialect = is.dialect;
    })

-- a change that was not made
pub unchanged : {T : Type 0} (after : Option T) (old new : T) (done : Bool) → IsChange after old new done → done ≡ false → new ≡ old
unchanged None old new done change not = change.1
unchanged (Some x) old new done change not = absurd (cc (change.0, not))

-- ---- a column

-- a column that stands last
pub record Grows (schema after : Declared) (name : Field) : Type 0 where
  pub column : NamedColumn
  pub named : column.name ≡ name
  pub few : length schema.columns < 64
  pub is : after.columns ≡ schema.columns ++ column ∷ []

few_from : (a b c : Bool) (x y z : SchemaError) → (if not a then Some x else (if b then Some y else (if c then Some z else None))) ≡ None → c ≡ false
few_from true true c x y z is = absurd (cc)
few_from true false true x y z is = absurd (cc)
few_from true false false x y z is = refl
few_from false b c x y z is = absurd (cc)

grows : (schema : Declared) (name : Field) (signed : Bool) (form : Form) (offset : ℤ) (after : Declared)
    → with_new_column schema name signed form offset ≡ Some after → Grows schema after name
grows schema name signed form offset after is = by (name_refusal schema name) (int_le (offset +ℤ pos (size_in form)) (pos max_end)) refl is
  where
    by : (o : Option SchemaError) (b : Bool) → name_refusal schema name ≡ o
        → (if is_none o && b then Some (with_named schema (named_column name form offset) signed) else None) ≡ Some after → Grows schema after name
    by (Some e) b refused is = absurd (cc)
    by None false refused is = absurd (cc)
    by None true refused is =
        let same : with_named schema (named_column name form offset) signed ≡ after = cc in
        let few : nat_le 64 (length schema.columns) ≡ false =
        few_from (is_name name) (is_some (position_of schema.columns name)) (nat_le 64 (length schema.columns)) _ _ _ refused in
        record {
          column = named_column name form offset;
          named = refl;
          few = grind (arith, nat_tests);
          is = ap (λ (s : Declared). s.columns) (sym same);
        }

plain_grows : (schema : Declared) (name form sizes : Field) (after : Declared)
    → option_and_then (λ f. with_new_column schema name false f (pos 0)) (form_in form sizes) ≡ Some after → Grows schema after name
plain_grows schema name form sizes after is =
    option_and_then_some (λ f. with_new_column schema name false f (pos 0)) (form_in form sizes) after is (λ f read done. grows schema name false f (pos 0) after done)

signed_grows : (schema : Declared) (name form sizes offset : Field) (after : Declared)
    → option_and_then (λ f. option_and_then (λ o. with_new_column schema name true f o) (offset_of offset)) (form_in form sizes) ≡ Some after → Grows schema after name
signed_grows schema name form sizes offset after is =
    option_and_then_some (λ f. option_and_then (λ o. with_new_column schema name true f o) (offset_of offset)) (form_in form sizes) after is
    (λ f read done. option_and_then_some (λ o. with_new_column schema name true f o) (offset_of offset) after done (λ o spelled made. grows schema name true f o after made))

column_grows : (schema : Declared) (fields : List Field) (after : Declared) → column_after schema fields ≡ Some after → Grows schema after (get_or fields 0 [])
column_grows schema [] after is = absurd (cc)
column_grows schema (name ∷ []) after is = absurd (cc)
column_grows schema (name ∷ form ∷ []) after is = absurd (cc)
column_grows schema (name ∷ form ∷ sizes ∷ []) after is = plain_grows schema name form sizes after is
column_grows schema (name ∷ form ∷ sizes ∷ offset ∷ []) after is = signed_grows schema name form sizes offset after is
column_grows schema (name ∷ form ∷ sizes ∷ offset ∷ more ∷ fields) after is = absurd (cc)

pub table_grows : (table : DeclaredTable) (fields : List Field) (after : DeclaredTable) → word_of (get_or fields 0 []) ≡ Some Column
    → table_after table fields ≡ Some after → Grows table.schema after.schema (get_or fields 1 [])
table_grows table [] after is done = absurd (cc)
table_grows table (word ∷ fields) after is done =
    by (bytes_eq word (codes "column")) (bytes_eq word (codes "limit")) (column_after table.schema fields) (limit_of fields) (column_is word is) refl done
  where
    by : (a b : Bool) (columns : Option Declared) (o : Option ℕ) → a ≡ true → column_after table.schema fields ≡ columns
        → (if a then option_map (λ schema. record table { schema = schema }) columns
        else (if b then option_map (λ limit. record table { limit = limit }) o else None)) ≡ Some after → Grows table.schema after.schema (get_or (word ∷ fields) 1 [])
    by false b columns o test added e = absurd (cc)
    by true b None o test added e = absurd (cc)
    by true b (Some schema) o test added e =
        let same : record table { schema = schema } ≡ after = cc in
        subst (λ s. Grows table.schema s (get_or fields 0 [])) (ap (λ (t : DeclaredTable). t.schema) same) (column_grows table.schema fields schema added)

module _ (l : Logical) (name : Field) (table : DeclaredTable) (is : IsLogical l) (free : IsUncalled l name) (more : Grows l.schema table.schema name) where
  old_title : (a : ℕ) → a < length l.titles → title_at (l.titles ++ name ∷ []) a ≡ title_of l a
  old_title a within = get_or-append l.titles (name ∷ []) [] a within

  new_title : (a : ℕ) → a ≡ length l.titles → title_at (l.titles ++ name ∷ []) a ≡ name
  new_title a last = ap (title_at (l.titles ++ name ∷ [])) last ∙ get_or-append_seam l.titles name [] []

  old_name : (b : ℕ) → b < length l.schema.columns → (column_at table.schema.columns b).name ≡ name_of l b
  old_name b within =
      ap (λ columns. (column_at columns b).name) more.is
      ∙ ap (λ (column : NamedColumn). column.name) (get_or-append l.schema.columns (more.column ∷ []) no_column b within)

  new_name : (b : ℕ) → b ≡ length l.schema.columns → (column_at table.schema.columns b).name ≡ name
  new_name b last =
      ap (λ columns. (column_at columns b).name) more.is
      ∙ ap (λ k. (column_at (l.schema.columns ++ more.column ∷ []) k).name) last
      ∙ ap (λ (column : NamedColumn). column.name) (get_or-append_seam l.schema.columns more.column [] no_column)
      ∙ more.named

  long : length (l.titles ++ name ∷ []) ≡ length l.titles + 1
  long = omega (arith, length-append l.titles (name ∷ []))

  distinct_titles : (a b : ℕ) → a < length l.titles + 1 → b < length l.titles + 1 → title_at (l.titles ++ name ∷ []) a ≡ title_at (l.titles ++ name ∷ []) b → a ≡ b
  distinct_titles a b in_a in_b same = elim (cases_eq a (length l.titles)) [
    | inl last_a ↦ elim (cases_eq b (length l.titles)) [
      | inl last_b ↦ omega (arith, last_a, last_b)
      | inr other_b ↦ let before : b < length l.titles = omega arith in absurd (free.titles b before (sym (old_title b before) ∙ sym same ∙ new_title a last_a))
    ]
    | inr other_a ↦ let first : a < length l.titles = omega arith in elim (cases_eq b (length l.titles)) [
      | inl last_b ↦ absurd (free.titles a first (sym (old_title a first) ∙ same ∙ new_title b last_b))
      | inr other_b ↦ let before : b < length l.titles = omega arith in is.titles a b first before (sym (old_title a first) ∙ same ∙ old_title b before)
    ]
  ]

  distinct_names : (a b : ℕ) → a < length l.titles + 1 → b < length l.titles + 1 → title_at (l.titles ++ name ∷ []) a ≡ (column_at table.schema.columns b).name → a ≡ b
  distinct_names a b in_a in_b same = elim (cases_eq a (length l.titles)) [
    | inl last_a ↦ elim (cases_eq b (length l.titles)) [
      | inl last_b ↦ omega (arith, last_a, last_b)
      | inr other_b ↦ let before : b < length l.schema.columns = omega (arith, is.titled) in absurd (free.names b before (sym (old_name b before) ∙ sym same ∙ new_title a last_a))
    ]
    | inr other_a ↦ let first : a < length l.titles = omega arith in elim (cases_eq b (length l.titles)) [
      | inl last_b ↦ let last : b ≡ length l.schema.columns = omega (arith, last_b, is.titled) in absurd (free.titles a first (sym (old_title a first) ∙ same ∙ new_name b last))
      | inr other_b ↦ let before : b < length l.titles = omega arith in let column : b < length l.schema.columns = omega (arith, is.titled) in
          is.names a b first before (sym (old_title a first) ∙ same ∙ old_name b column)
    ]
  ]

  grown : length table.schema.columns ≡ length l.schema.columns + 1
  grown = ap length more.is ∙ omega (arith, length-append l.schema.columns (more.column ∷ []))

  pub column_logical : IsLogical (with_plain_column l name table)
  column_logical = record {
    titled = omega (arith, long, grown, is.titled);
    few = omega (arith, long, more.few, is.titled);
    kinded = omega (arith, length-append l.kinds (Decimal 0 ∷ []), grown, is.kinded);
    kinds = All-push IsKind l.kinds (Decimal 0) is.kinds (omega arith);
    titles = λ a b in_a in_b same. distinct_titles a b (omega (arith, long, in_a)) (omega (arith, long, in_b)) same;
    names = λ a b in_a in_b same. distinct_names a b (omega (arith, long, in_a)) (omega (arith, long, in_b)) same;
    dialect = is.dialect;
  }

-- ---- a title

module _ (l : Logical) (c : ℕ) (title : Field) (is : IsLogical l) (within : c < length l.titles) (free : IsUncalled l title) where
  changed : (a : ℕ) → a ≡ c → title_at (slice_set l.titles c title) a ≡ title
  changed a same = ap (title_at (slice_set l.titles c title)) same ∙ get_or-set_same l.titles c title [] within

  others : (a : ℕ) → (a ≡ c → ⊥) → title_at (slice_set l.titles c title) a ≡ title_of l a
  others a other = get_or-set_other l.titles c a title [] other

  unlike_titles : (a b : ℕ) → a < length l.titles → b < length l.titles → title_at (slice_set l.titles c title) a ≡ title_at (slice_set l.titles c title) b → a ≡ b
  unlike_titles a b in_a in_b same = elim (cases_eq a c) [
    | inl at_a ↦ elim (cases_eq b c) [
      | inl at_b ↦ omega (arith, at_a, at_b)
      | inr not_b ↦ absurd (free.titles b in_b (sym (others b not_b) ∙ sym same ∙ changed a at_a))
    ]
    | inr not_a ↦ elim (cases_eq b c) [
      | inl at_b ↦ absurd (free.titles a in_a (sym (others a not_a) ∙ same ∙ changed b at_b))
      | inr not_b ↦ is.titles a b in_a in_b (sym (others a not_a) ∙ same ∙ others b not_b)
    ]
  ]

  unlike_names : (a b : ℕ) → a < length l.titles → b < length l.titles → title_at (slice_set l.titles c title) a ≡ name_of l b → a ≡ b
  unlike_names a b in_a in_b same = elim (cases_eq a c) [
    | inl at_a ↦ absurd (free.names b (omega (arith, in_b, is.titled)) (sym same ∙ changed a at_a))
    | inr not_a ↦ is.names a b in_a in_b (sym (others a not_a) ∙ same)
  ]

  pub title_logical : IsLogical (with_title l c title)
  title_logical = record {
    titled = length-set l.titles c title ∙ is.titled;
    few = omega (arith, length-set l.titles c title, is.few);
    kinded = is.kinded;
    kinds = is.kinds;
    titles = λ a b in_a in_b same. unlike_titles a b (omega (arith, length-set l.titles c title, in_a)) (omega (arith, length-set l.titles c title, in_b)) same;
    names = λ a b in_a in_b same. unlike_names a b (omega (arith, length-set l.titles c title, in_a)) (omega (arith, length-set l.titles c title, in_b)) same;
    dialect = is.dialect;
  }

-- ---- a kind

pub kind_logical : (l : Logical) (c : ℕ) (kind : Kind) → IsLogical l → IsKind kind → IsLogical (with_kind l c kind)
kind_logical l c kind is valid = record {
  titled = is.titled;
  few = is.few;
  kinded = length-set l.kinds c kind ∙ is.kinded;
  kinds = All-set IsKind l.kinds c kind valid is.kinds;
  titles = is.titles;
  names = is.names;
  dialect = is.dialect;
}

-- ---- what a call did

made : {T : Type 0} (after : Option T) (old new : T) (done : Bool) → IsChange after old new done → done ≡ true → after ≡ Some new
made None old new done change did = absurd (cc (change.0, did))
made (Some x) old new done change did = ap (λ y. Some y) (sym change.1)

any_default : {X : Type 0} (xs : List X) (c : ℕ) (d e : X) → c < length xs → get_or xs c d ≡ get_or xs c e
any_default [] c d e within = absurd (omega arith)
any_default (x ∷ xs) zero d e within = refl
any_default (x ∷ xs) (suc c) d e within = any_default xs c d e (omega arith)

module _ (l : Logical) (titles : List Field) (kinds : List Kind) (table : DeclaredTable) where
  pub not_column : (fields : List Field) (done : Bool) → IsLogical l → titles ≡ l.titles → kinds ≡ l.kinds
      → IsChange (table_after (logical_table l) fields) (logical_table l) table done → done ≡ false
      → IsLogical (record l { schema = table.schema; limit = table.limit; titles = titles; kinds = kinds })
  not_column fields done is same_titles same_kinds change not =
      let same : table ≡ logical_table l = unchanged (table_after (logical_table l) fields) (logical_table l) table done change not in
      subst (λ (ts : List Field). IsLogical (record l { schema = table.schema; limit = table.limit; titles = ts; kinds = kinds })) (sym same_titles)
      (subst (λ (ks : List Kind). IsLogical (record l { schema = table.schema; limit = table.limit; kinds = ks })) (sym same_kinds)
      (same_columns l table is (ap (λ (t : DeclaredTable). t.schema) same)))

  module _ (fields : List Field) (done : Bool) (is : IsLogical l) (word : word_of (get_or fields 0 []) ≡ Some Column)
      (none : column_called l (get_or fields 1 []) ≡ None) (change : IsChange (table_after (logical_table l) fields) (logical_table l) table done) (did : done ≡ true)
      (more_titles : titles ≡ l.titles ++ get_or fields 1 [] ∷ []) (more_kinds : kinds ≡ l.kinds ++ Decimal 0 ∷ []) where
    pub one_column : IsLogical (record l { schema = table.schema; limit = table.limit; titles = titles; kinds = kinds })
    one_column =
        let after = made (table_after (logical_table l) fields) (logical_table l) table done change did in
        let grown = table_grows (logical_table l) fields table word after in
        subst (λ (ts : List Field). IsLogical (record l { schema = table.schema; limit = table.limit; titles = ts; kinds = kinds })) (sym more_titles)
        (subst (λ (ks : List Kind). IsLogical (record l { schema = table.schema; limit = table.limit; titles = l.titles ++ get_or fields 1 [] ∷ []; kinds = ks })) (sym more_kinds)
        (column_logical l (get_or fields 1 []) table is (uncalled l (get_or fields 1 []) none) grown))

    pub column_done : column_said l fields ≡ Ok (record l { schema = table.schema; limit = table.limit; titles = titles; kinds = kinds })
    column_done =
        let after = made (table_after (logical_table l) fields) (logical_table l) table done change did in
        ap (λ o. if is_some o then Err NameTaken else after_table (with_plain_column l (get_or fields 1 [])) (table_after (logical_table l) fields)) none
        ∙ ap (after_table (with_plain_column l (get_or fields 1 []))) after
        ∙ ap₂ (λ (ts : List Field) (ks : List Kind). Ok (record l { schema = table.schema; limit = table.limit; titles = ts; kinds = ks })) (sym more_titles) (sym more_kinds)

-- a column by the word of its record
pub said_column : (l : Logical) (fields : List Field) → word_of (get_or fields 0 []) ≡ Some Column → record_said l fields ≡ column_said l fields
said_column l [] is = absurd (cc)
said_column l (word ∷ fields) is = ap (λ o. said_by l o (word ∷ fields) fields) is

-- a title that is given
pub title_done : (l : Logical) (c : ℕ) (title : Field) → bytes_eq (title_of l c) (name_of l c) ≡ true → column_called l title ≡ None
    → title_given l c title ≡ Ok (with_title l c title)
title_done l c title plain none =
    ap (λ b. if not b then Err TitleDeclared else (if is_some (column_called l title) then Err TitleTaken else Ok (with_title l c title))) plain
    ∙ ap (λ o. if is_some o then Err TitleTaken else Ok (with_title l c title)) none

kind_back : (l : Logical) (c : ℕ) (kind : Kind) → kind ≡ kind_of l c → with_kind l c kind ≡ l
kind_back l c kind same = ap (λ ks. record l { kinds = ks }) (ap (slice_set l.kinds c) same ∙ set-get_or l.kinds c (Decimal 0))

-- a text that is added to a kind
module _ (l : Logical) (c : ℕ) (old new : Kind) (text : Field) (same : old ≡ kind_of l c) where
  pub text_done : (r : Result (Unit {0}) DeclareError) → Does (text_added old text) old new r → Does (text_given l c text) l (with_kind l c new) r
  text_done (Ok done) does = ap (λ k. kind_after l c (text_added k text)) (sym same) ∙ ap (kind_after l c) does
  text_done (Err (Refused why)) does =
      (ap (λ k. kind_after l c (text_added k text)) (sym same) ∙ ap (kind_after l c) does.0, kind_back l c new (does.1 ∙ same))
  text_done (Err NoMemory) does = kind_back l c new (does ∙ same)

-- a kind of a list
pub kind_there : (kinds : List Kind) (c : ℕ) (kind : Kind) → c < length kinds → kind ≡ get_or kinds c kind → kind ≡ get_or kinds c (Decimal 0)
kind_there kinds c kind within is = is ∙ any_default kinds c kind (Decimal 0) within

-- what is said of a column by a pair of fields
module _ (l : Logical) (fields : List Field) (name text : Field) (c : ℕ) (pair : Some (name, text) ≡ pair_of fields) where
  pub title_at_column : Some c ≡ position_of l.schema.columns name → title_said l fields ≡ title_given l c text
  title_at_column found =
      ap (by_pair BadTitle (λ name title. of_column (λ c. title_given l c title) (position_of l.schema.columns name))) (sym pair)
      ∙ ap (of_column (λ c. title_given l c text)) (sym found)

  pub title_nowhere : None ≡ position_of l.schema.columns name → title_said l fields ≡ Err NoColumn
  title_nowhere found =
      ap (by_pair BadTitle (λ name title. of_column (λ c. title_given l c title) (position_of l.schema.columns name))) (sym pair)
      ∙ ap (of_column (λ c. title_given l c text)) (sym found)

  pub text_at_column : Some c ≡ position_of l.schema.columns name → text_said l fields ≡ text_given l c text
  text_at_column found =
      ap (by_pair NoTexts (λ name text. of_column (λ c. text_given l c text) (position_of l.schema.columns name))) (sym pair)
      ∙ ap (of_column (λ c. text_given l c text)) (sym found)

  pub text_nowhere : None ≡ position_of l.schema.columns name → text_said l fields ≡ Err NoColumn
  text_nowhere found =
      ap (by_pair NoTexts (λ name text. of_column (λ c. text_given l c text) (position_of l.schema.columns name))) (sym pair)
      ∙ ap (of_column (λ c. text_given l c text)) (sym found)
