-- Words, names and signs are distinguished.
use Rattle.std.proofs.Common.{◌≡◌, ℕ, Bool, true, false, ◌||◌, not, ◌&&◌, if◌then◌else◌, List, length, get_or, Option, Some, None, option_and_then, option_map, nat_le, ap, sym, ◌∙◌, refl, codes}
use Rattle.std.specs.Str.{bytes_eq}
use Rattle.std.specs.List.{list_all}
use Rattle.std.proofs.lemmas.Slice.Eq.{bytes_eq-Decides}
use Rattle.std.proofs.lemmas.List.Quantifiers.{position-Some}
use Rattle.std.proofs.lemmas.List.Elements.{All-get_or}
use Rattle.bsi_digits.specs.declared.op.Op.{Op}
use Rattle.bsi_digits.specs.declared.op.Op.TheVariants.{Eq, Ne, Lt, Le, Gt, Ge}
use Rattle.bsi_schema.specs.Columns.{AreNamed, Declared, NamedColumn, no_column, position_of}
use Rattle.bsi_schema.specs.Names.{begins_lower, is_name, is_name_byte, is_word}
use Rattle.bsi_rows.specs.declared.query.Pred.{Pred}
use Rattle.bsi_syntax.specs.declared.predicates.Pending.TheVariants.{Column, Comparison}
use Rattle.bsi_rows.specs.Fields.{Field}
use Rattle.bsi_syntax.specs.Postfix.{after_name, after_word, alike_column, op_of}
use Rattle.bsi_syntax.specs.Predicates.{sign_of}
use Rattle.bsi_syntax.specs.Vocabularies.{schema_vocabulary, NameNoWord, Words}

pub same_bytes : (a b : Field) → bytes_eq a b ≡ true → a ≡ b
same_bytes a b same = (bytes_eq-Decides a b).0 same

-- which way a test went
pub if_same : {X G : Type 0} (field text : Field) (x y z : X) → (if bytes_eq field text then x else y) ≡ z → (field ≡ text → x ≡ z → G) → (y ≡ z → G) → G
if_same {G = G} field text x y z is met unmet = go (bytes_eq field text) refl is
  where
    go : (b : Bool) → bytes_eq field text ≡ b → (if b then x else y) ≡ z → G
    go true same is = met (same_bytes field text same) is
    go false apart is = unmet is

-- a value that is there
pub some_same : {A : Type 0} (a b : A) → Some a ≡ Some b → a ≡ b
some_same a b is = cc

pub none_is_some : {A : Type 0} (x : A) → None ≡ Some x → ⊥
none_is_some x is = cc

-- what a value that is mapped came from
pub mapped : {A B G : Type 0} (f : A → B) (o : Option A) (y : B) → option_map f o ≡ Some y → ((x : A) → o ≡ Some x → Some (f x) ≡ Some y → G) → G
mapped f None y is k = cc
mapped f (Some x) y is k = k x refl is

-- the last part of a conjunction
last_of : (a b c d : Bool) → (a && b && c && not d) ≡ true → d ≡ false
last_of false b c d is = cc
last_of true false c d is = cc
last_of true true false d is = cc
last_of true true true true is = cc
last_of true true true false is = refl

-- a text that is none of five words
none_of : (a b c d e : Bool) → (a || b || c || d || e) ≡ false → (a ≡ false) × (c ≡ false) × (d ≡ false) × (e ≡ false)
none_of true b c d e is = cc
none_of false true c d e is = cc
none_of false false true d e is = cc
none_of false false false true e is = cc
none_of false false false false e is = (refl, refl, refl, is)

-- a column's name is none of the words
pub no_word : (columns : List NamedColumn) (name : Field) (c : ℕ) → AreNamed columns → position_of columns name ≡ Some c → is_word name ≡ false
no_word columns name c named at =
    let found = position-Some (λ (column : NamedColumn). bytes_eq name column.name) columns c no_column at in
    let same : name ≡ (get_or columns c no_column).name = same_bytes _ _ found.1 in
    let good : is_name name ≡ true = ap is_name same ∙ All-get_or (λ column. is_name column.name ≡ true) columns c no_column found.0 named in
    last_of (begins_lower name) (nat_le (length name) 32) (list_all is_name_byte name) (is_word name) good

pub schema_names : (schema : Declared) → AreNamed schema.columns → NameNoWord (schema_vocabulary schema)
schema_names schema named name c at = no_word schema.columns name c named at

-- a column that may be compared with another
pub alike_is : (words : Words) (c : ℕ) (name : Field) (other : ℕ) → words.column name ≡ Some other → words.alike c other ≡ true → alike_column words c name ≡ Some other
alike_is words c name other at alike = rw (at, alike) refl

pub is_alike : (words : Words) (c : ℕ) (name : Field) (other : ℕ) → alike_column words c name ≡ Some other → (words.column name ≡ Some other) × (words.alike c other ≡ true)
is_alike words c name other is = by (words.column name) refl is
  where
    by : (found : Option ℕ) → words.column name ≡ found → option_and_then (λ k. if words.alike c k then Some k else None) found ≡ Some other
        → (words.column name ≡ Some other) × (words.alike c other ≡ true)
    by None at is = absurd (none_is_some other is)
    by (Some k) at is = way (words.alike c k) refl is
      where
        way : (b : Bool) → words.alike c k ≡ b → (if b then Some k else None) ≡ Some other → (words.column name ≡ Some other) × (words.alike c other ≡ true)
        way false apart is = absurd (none_is_some other is)
        way true alike is =
            let same : k ≡ other = some_same k other is in
            (at ∙ is, ap (words.alike c) (sym same) ∙ alike)

-- so it leads to a column
pub name_leads : (words : Words) (name : Field) (c : ℕ) (stack : List Pred) → NameNoWord words → words.column name ≡ Some c
    → after_word words stack name ≡ Some (Column c, stack)
name_leads words name c stack named at =
    let apart = none_of (bytes_eq name (codes "all")) (bytes_eq name (codes "null")) (bytes_eq name (codes "and")) (bytes_eq name (codes "or")) (bytes_eq name (codes "not")) (named name c at) in
    rw (apart.0, apart.1, apart.2, apart.3, at) refl

-- a sign leads to a comparison
pub sign_leads : (op : Op) (c : ℕ) (stack : List Pred) → after_name c stack (sign_of op) ≡ Some (Comparison c op, stack)
sign_leads Eq c stack = refl
sign_leads Ne c stack = refl
sign_leads Lt c stack = refl
sign_leads Le c stack = refl
sign_leads Gt c stack = refl
sign_leads Ge c stack = refl

-- what is read as a comparison is its sign
sign_or : (sign text : Field) (op here : Op) (rest : Option Op) → text ≡ sign_of here → (if bytes_eq sign text then Some here else rest) ≡ Some op
    → (rest ≡ Some op → sign ≡ sign_of op) → sign ≡ sign_of op
sign_or sign text op here rest spelled is unmet =
    if_same sign text (Some here) rest (Some op) is (λ same found. same ∙ spelled ∙ ap sign_of (some_same here op found)) unmet

pub read_is_sign : (sign : Field) (op : Op) → op_of sign ≡ Some op → sign ≡ sign_of op
read_is_sign sign op is =
    sign_or sign (codes "=") op Eq _ refl is λ is.
    sign_or sign (codes "!=") op Ne _ refl is λ is.
    sign_or sign (codes "<") op Lt _ refl is λ is.
    sign_or sign (codes "<=") op Le _ refl is λ is.
    sign_or sign (codes ">") op Gt _ refl is λ is.
    sign_or sign (codes ">=") op Ge _ refl is λ is. absurd (none_is_some op is)
