-- One more column: what the schema refuses is what a record can't declare.
use Rattle.std.proofs.Common.{◌≡◌, ◌≢◌, ℕ, ◌*◌, ◌^◌, ◌<◌, ◌≤◌, Bool, true, false, ◌&&◌, not, nat_eq, nat_lt, nat_le, List, [], ◌∷◌, ◌++◌, length, reverse, sum, position, Option, Some, None, is_none, is_some, unwrap_or, option_map, option_and_then, if◌then◌else◌, Result, Ok, Err, ℤ, pos, ◌+ℤ◌, refl, sym, ◌∙◌, ap, subst, arith}
use Rattle.std.specs.Prelude.{int_le, int_lt, IfErr, IfOk, IsErr, IsUtf8, MatchResult, OnErr, OnOk}
use Rattle.std.specs.Option.{option_or}
use Rattle.std.specs.List.{list_all}
use Rattle.std.specs.Str.{IsAscii}
use Rattle.std.proofs.Math.Nat.{pow-le-pow_right}
use Rattle.std.proofs.lemmas.Bool.Decides.{nat_tests}
use Rattle.std.proofs.lemmas.Int.{ints}
use Rattle.std.proofs.lemmas.List.{reverse-append}
use Rattle.std.proofs.lemmas.Str.{IsUtf8-from_ascii}
use Rattle.std.proofs.lemmas.Str.Ascii.{IsAscii-nil, IsAscii-cons}
use Rattle.bsi_digits.specs.declared.bases_error.BasesError.{BasesError}
use Rattle.bsi_digits.specs.declared.bases_error.BasesError.TheVariants.{TooWide, ProductTooLarge, Empty, TooMany}
use Rattle.bsi_digits.specs.Digits.{product}
use Rattle.bsi_digits.specs.Refusal.{is_bad_base, refusal, refusal_at}
use Rattle.bsi_schema.specs.declared.form.ColumnSpec.{ColumnSpec}
use Rattle.bsi_schema.specs.declared.form.ColumnSpec.TheVariants.{Slices, Equality, Range}
use Rattle.bsi_schema.specs.declared.form.Form.{Form}
use Rattle.bsi_schema.specs.declared.schema_error.SchemaError.{SchemaError}
use Rattle.bsi_schema.specs.declared.schema_error.SchemaError.TheVariants.{BadName, BadBases, BadOffset, NoMemory}
use Rattle.bsi_schema.specs.Columns.{Declared, form_of, named_column, size_in, with_column}
use Rattle.bsi_schema.specs.Names.{begins_lower, is_name, is_name_byte, is_word}
use Rattle.bsi_rows.specs.Refusals.{column_refusal, form_refusal, name_refusal, signed_refusal, IsFirstOr}
use Rattle.bsi_rows.specs.Fields.{Field}
use Rattle.bsi_syntax.specs.Setups.{added_after, with_new_column, IsChange}

-- ---- what a record that can't be done leaves, and one that is done

pub not_done : {T : Type 0} (after : Option T) (old : T) → after ≡ None → IsChange after old old false
not_done None old none = (refl, refl)
not_done (Some x) old none = (cc, cc)

pub done : {T : Type 0} (after : Option T) (old new : T) → after ≡ Some new → IsChange after old new true
done None old new some = (cc, cc)
done (Some x) old new some = (refl, cc)

-- what adding a column comes to, where `refusal` says why it can't be had
module _ {E : Type 0} (after : Option Declared) (old wanted : Declared) (refusal : Option SchemaError) (can : refusal ≡ None → after ≡ Some wanted)
    (can_not : (e : SchemaError) → IsFirstOr NoMemory refusal e → e ≢ NoMemory → after ≡ None) where
  pub told : (added : Result (Unit {0}) SchemaError) (result : Result Bool E) (new : Declared) → OnOk added (new ≡ wanted) → OnOk added (refusal ≡ None)
      → IfErr added (IsFirstOr NoMemory refusal) → OnErr added (new ≡ old)
      → IfOk result (λ done. MatchResult added (λ _. done ≡ true) (λ e. (done ≡ false) × (e ≢ NoMemory))) → IfOk result (λ b. IsChange after old new b)
  told added (Err e) new is taken first unchanged tells = tt
  told (Ok x) (Ok b) new is taken first unchanged tells = subst (IsChange after old new) (sym tells) (done after old new (can taken ∙ ap Some (sym is)))
  told (Err e) (Ok b) new is taken first unchanged tells =
      subst (IsChange after old new) (sym tells.0) (subst (λ n. IsChange after old n false) (sym unchanged) (not_done after old (can_not e first tells.1)))

pub kept_by : {E : Type 0} (P : Type 0) (added : Result (Unit {0}) SchemaError) (result : Result Bool E) → OnErr result (IsErr added) → OnErr added P → OnErr result P
kept_by P added (Ok b) memory unchanged = tt
kept_by P (Ok x) (Err e) memory unchanged = absurd cc
kept_by P (Err d) (Err e) memory unchanged = unchanged

-- ---- the size of a form that can be had

if_none : {A : Type 0} (b : Bool) (x : A) (rest : Option A) → (if b then Some x else rest) ≡ None → (b ≡ false) × (rest ≡ None)
if_none true x rest none = (cc, cc)
if_none false x rest none = (refl, none)

product-append : (xs ys : List ℕ) → product (xs ++ ys) ≡ product xs * product ys
product-append [] ys = omega arith
product-append (x ∷ xs) ys = ap (λ n. x * n) (product-append xs ys) ∙ omega arith

product-reverse : (xs : List ℕ) → product (reverse xs) ≡ product xs
product-reverse [] = refl
product-reverse (x ∷ xs) =
    let turned : product xs * (x * 1) ≡ x * product xs = omega arith in
    ap product (reverse-append (x ∷ []) xs) ∙ product-append (reverse xs) (x ∷ []) ∙
    ap (λ n. n * (x * 1)) (product-reverse xs) ∙ turned

bases_size : (bs : List ℕ) → refusal bs ≡ None → product (reverse bs) ≤ 2 ^ 63
bases_size bs none =
    let past_empty = if_none (nat_eq (length bs) 0) Empty (if nat_lt 63 (length bs) then Some TooMany else refusal_at (position is_bad_base bs) bs) none in
    let past_many = if_none (nat_lt 63 (length bs)) TooMany (refusal_at (position is_bad_base bs) bs) past_empty.1 in
    by (position is_bad_base bs) past_many.1
  where
    by : (index : Option ℕ) → refusal_at index bs ≡ None → product (reverse bs) ≤ 2 ^ 63
    by (Some index) none = absurd cc
    by None none =
        let past_wide = if_none (nat_lt 4096 (sum bs)) TooWide (if nat_lt (2 ^ 63) (product bs) then Some ProductTooLarge else None) none in
        let past_large = if_none (nat_lt (2 ^ 63) (product bs)) ProductTooLarge None past_wide.1 in
        let test : nat_lt (2 ^ 63) (product bs) ≡ false = past_large.0 in
        let small : product bs ≤ 2 ^ 63 = grind (arith, nat_tests) in
        omega (arith, small, product-reverse bs)

form_size : (spec : ColumnSpec) → form_refusal spec ≡ None → size_in (form_of spec) ≤ 2 ^ 63
form_size (Slices w) none =
    let past_empty = if_none (nat_eq w 0) Empty (if nat_lt 63 w then Some TooMany else None) none in
    let past_many = if_none (nat_lt 63 w) TooMany None past_empty.1 in
    let test : nat_lt 63 w ≡ false = past_many.0 in
    let few : w ≤ 63 = grind (arith, nat_tests) in
    pow-le-pow_right {n = 2} (omega arith) few
form_size (Equality bases) none = bases_size bases.items none
form_size (Range bases) none = bases_size bases.items none

not_above : (x y : ℤ) → int_lt y x ≡ false → int_le x y ≡ true
not_above x y test = grind (arith, ints)

above : (x y : ℤ) → int_lt y x ≡ true → int_le x y ≡ false
above x y test = grind (arith, ints)

low : (n : ℕ) → n ≤ 2 ^ 63 → int_le (pos 0 +ℤ pos n) (pos (2 ^ 63)) ≡ true
low n small = grind (arith, ints, nat_tests)

-- ---- one more column

module _ (schema : Declared) (name : Field) (spec : ColumnSpec) (offset : Option ℤ) where
  abbrev least : ℤ
  least = unwrap_or offset (pos 0)

  abbrev more : Form → Option Declared
  more f = with_new_column schema name (is_some offset) f least

  bad_form : (why : BasesError) → form_refusal spec ≡ Some why → added_after schema name spec offset ≡ None
  bad_form why is = ap (λ o. option_and_then more (if is_none o then Some (form_of spec) else None)) is

  bad_name : (why : SchemaError) → name_refusal schema name ≡ Some why → added_after schema name spec offset ≡ None
  bad_name why is = by (is_none (form_refusal spec))
    where
      by : (b : Bool) → option_and_then more (if b then Some (form_of spec) else None) ≡ None
      by true = ap (λ o. if is_none o && int_le (least +ℤ pos (size_in (form_of spec))) (pos (2 ^ 63))
          then Some (with_column schema (named_column name (form_of spec) least) (is_some offset)) else None) is
      by false = refl

  too_high : int_le (least +ℤ pos (size_in (form_of spec))) (pos (2 ^ 63)) ≡ false → added_after schema name spec offset ≡ None
  too_high high = by (is_none (form_refusal spec)) (is_none (name_refusal schema name)) refl
    where
      by : (b n : Bool) → is_none (name_refusal schema name) ≡ n → option_and_then more (if b then Some (form_of spec) else None) ≡ None
      by true true is = rw (is, high) refl
      by true false is = rw is refl
      by false n is = refl

  can_be_had : name_refusal schema name ≡ None → form_refusal spec ≡ None → int_le (least +ℤ pos (size_in (form_of spec))) (pos (2 ^ 63)) ≡ true
      → added_after schema name spec offset ≡ Some (with_column schema (named_column name (form_of spec) least) (is_some offset))
  can_be_had free valid low = rw (valid, free, low) refl

  column_some : (e : SchemaError) → column_refusal schema name spec ≡ Some e → added_after schema name spec offset ≡ None
  column_some e some = by (name_refusal schema name) (form_refusal spec) refl refl some
    where
      by : (n : Option SchemaError) (f : Option BasesError) → name_refusal schema name ≡ n → form_refusal spec ≡ f → option_or n (option_map BadBases f) ≡ Some e
          → added_after schema name spec offset ≡ None
      by (Some why) f name_is form_is some = bad_name why name_is
      by None (Some why) name_is form_is some = bad_form why form_is
      by None None name_is form_is some = absurd cc

module _ (schema : Declared) (name : Field) (spec : ColumnSpec) where
  column_none : column_refusal schema name spec ≡ None → (name_refusal schema name ≡ None) × (form_refusal spec ≡ None)
  column_none none = by (name_refusal schema name) (form_refusal spec) none
    where
      by : (n : Option SchemaError) (f : Option BasesError) → option_or n (option_map BadBases f) ≡ None → (n ≡ None) × (f ≡ None)
      by None None none = (refl, refl)
      by None (Some why) none = absurd cc
      by (Some why) f none = absurd cc

  -- from 0 up
  pub added : column_refusal schema name spec ≡ None
      → added_after schema name spec None ≡ Some (with_column schema (named_column name (form_of spec) (pos 0)) false)
  added none =
      let small : size_in (form_of spec) ≤ 2 ^ 63 = form_size spec (column_none none).1 in
      can_be_had schema name spec None (column_none none).0 (column_none none).1 (low (size_in (form_of spec)) small)

  pub refused : (e : SchemaError) → IsFirstOr NoMemory (column_refusal schema name spec) e → e ≢ NoMemory → added_after schema name spec None ≡ None
  refused e first other = by (column_refusal schema name spec) refl first
    where
      by : (o : Option SchemaError) → column_refusal schema name spec ≡ o → IsFirstOr NoMemory o e → added_after schema name spec None ≡ None
      by (Some why) is first = column_some schema name spec None why is
      by None is first = absurd (other first)

  -- from an offset up
  module _ (offset : ℤ) where
    pub added_signed : signed_refusal schema name spec offset ≡ None
        → added_after schema name spec (Some offset) ≡ Some (with_column schema (named_column name (form_of spec) offset) true)
    added_signed none = by (column_refusal schema name spec) (int_lt (pos (2 ^ 63)) (offset +ℤ pos (size_in (form_of spec)))) refl refl none
      where
        by : (o : Option SchemaError) (b : Bool) → column_refusal schema name spec ≡ o → int_lt (pos (2 ^ 63)) (offset +ℤ pos (size_in (form_of spec))) ≡ b
            → option_or o (if b then Some BadOffset else None) ≡ None
            → added_after schema name spec (Some offset) ≡ Some (with_column schema (named_column name (form_of spec) offset) true)
        by (Some why) b is test none = absurd cc
        by None true is test none = absurd cc
        by None false is test none =
            can_be_had schema name spec (Some offset) (column_none is).0 (column_none is).1 (not_above (offset +ℤ pos (size_in (form_of spec))) (pos (2 ^ 63)) test)

    pub refused_signed : (e : SchemaError) → IsFirstOr NoMemory (signed_refusal schema name spec offset) e → e ≢ NoMemory → added_after schema name spec (Some offset) ≡ None
    refused_signed e first other = by (column_refusal schema name spec) (int_lt (pos (2 ^ 63)) (offset +ℤ pos (size_in (form_of spec)))) refl refl first
      where
        by : (o : Option SchemaError) (b : Bool) → column_refusal schema name spec ≡ o → int_lt (pos (2 ^ 63)) (offset +ℤ pos (size_in (form_of spec))) ≡ b
            → IsFirstOr NoMemory (option_or o (if b then Some BadOffset else None)) e → added_after schema name spec (Some offset) ≡ None
        by (Some why) b is test first = column_some schema name spec (Some offset) why is
        by None true is test first = too_high schema name spec (Some offset) (above (offset +ℤ pos (size_in (form_of spec))) (pos (2 ^ 63)) test)
        by None false is test first = absurd (other first)

-- ---- a name is text

and_left : (a b : Bool) → (a && b) ≡ true → a ≡ true
and_left true b both = refl
and_left false b both = cc

and_right : (a b : Bool) → (a && b) ≡ true → b ≡ true
and_right true b both = both
and_right false b both = cc

name_byte : (b : ℕ) → is_name_byte b ≡ true → b < 128
name_byte b passes = grind (arith, nat_tests)

name_bytes : (text : Field) → list_all is_name_byte text ≡ true → IsAscii text
name_bytes [] all = IsAscii-nil
name_bytes (b ∷ text) all = IsAscii-cons b text (name_byte b (and_left _ _ all)) (name_bytes text (and_right (is_name_byte b) _ all))

name_is_text : (text : Field) → is_name text ≡ true → IsUtf8 text
name_is_text text is =
    let most : (begins_lower text && nat_le (length text) 32 && list_all is_name_byte text) ≡ true = and_left _ (not (is_word text)) is in
    IsUtf8-from_ascii text (name_bytes text (and_right (begins_lower text && nat_le (length text) 32) _ most))

-- so bytes that are no text can't name a column
pub no_text : (schema : Declared) (name : Field) → (IsUtf8 name → ⊥) → name_refusal schema name ≡ Some BadName
no_text schema name wrong = by (is_name name) refl
  where
    by : (b : Bool) → is_name name ≡ b → name_refusal schema name ≡ Some BadName
    by true is = absurd (wrong (name_is_text name is))
    by false is = rw is refl
