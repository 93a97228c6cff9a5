-- A text that is no UTF-8 is no column's name.
use Rattle.std.proofs.Common.{◌≡◌, ℕ, suc, ◌+◌, ◌<◌, Bool, true, false, cond, not, ◌&&◌, List, [], ◌∷◌, length, Some, None, refl, sym, ap, ◌∙◌, arith, le-ltb, All, IsTrue, subst}
use Rattle.std.specs.Cmp.{first_so, second_so}
use Rattle.std.specs.List.{list_all, prefix_len}
use Rattle.std.specs.Prelude.{nat_lt, nat_le, IsUtf8}
use Rattle.std.specs.Str.{bytes_eq}
use Rattle.std.proofs.lemmas.Bool.Decides.{nat_tests}
use Rattle.std.proofs.lemmas.List.Elements.{All-nil, All-cons, All-head, All-tail}
use Rattle.std.proofs.lemmas.Slice.Eq.{bytes_eq-Decides}
use Rattle.std.proofs.lemmas.Str.{IsUtf8-from_ascii}
use Rattle.std.proofs.lemmas.Str.Ascii.{IsAscii-from_all}
use Rattle.bsi_schema.specs.Columns.{position_of, AreNamed, NamedColumn}
use Rattle.bsi_schema.specs.Names.{begins_lower, is_name, is_name_byte, is_word}

-- a byte that may stand in a name is ASCII
byte_is_ascii : (b : ℕ) → is_name_byte b ≡ true → b < 128
byte_is_ascii b passes = grind (arith, nat_tests)

bytes_are_ascii : (text : List ℕ) → list_all is_name_byte text ≡ true → All (λ b. b < 128) text
bytes_are_ascii [] all = All-nil (λ b. b < 128)
bytes_are_ascii (b ∷ text) all =
    All-cons (λ b. b < 128) b text (byte_is_ascii b (first_so (is_name_byte b) (list_all is_name_byte text) all)) (bytes_are_ascii text (second_so (is_name_byte b) (list_all is_name_byte text) all))

-- a name is ASCII
pub name_is_ascii : (text : List ℕ) → IsTrue (is_name text) → All (λ b. b < 128) text
name_is_ascii text name =
    let start = begins_lower text && nat_le (length text) 32 in
    let spelled = first_so (start && list_all is_name_byte text) (not (is_word text)) name in
    bytes_are_ascii text (second_so start (list_all is_name_byte text) spelled)

-- and so text
pub name_is_text : (text : List ℕ) → IsTrue (is_name text) → IsUtf8 text
name_is_text text name = IsUtf8-from_ascii text (IsAscii-from_all text (name_is_ascii text name))

-- no column has it
none_named : (columns : List NamedColumn) (text : List ℕ) → AreNamed columns → (IsUtf8 text → ⊥)
    → prefix_len (λ column. not (bytes_eq text column.name)) columns ≡ length columns
none_named [] text named strange = refl
none_named (column ∷ columns) text named strange =
    by (bytes_eq text column.name) refl (none_named columns text (All-tail (λ c. IsTrue (is_name c.name)) column columns named) strange)
  where
    by : (b : Bool) → bytes_eq text column.name ≡ b → prefix_len (λ c. not (bytes_eq text c.name)) columns ≡ length columns
        → prefix_len (λ c. not (bytes_eq text c.name)) (column ∷ columns) ≡ length (column ∷ columns)
    by false e rest = rw e (let next : 1 + prefix_len (λ c. not (bytes_eq text c.name)) columns ≡ suc (length columns) = omega (arith, rest) in next)
    by true e rest =
        let same : text ≡ column.name = (bytes_eq-Decides text column.name).0 e in
        absurd (strange (subst IsUtf8 (sym same) (name_is_text column.name (All-head (λ c. IsTrue (is_name c.name)) column columns named))))

pub stranger : (columns : List NamedColumn) (text : List ℕ) → AreNamed columns → (IsUtf8 text → ⊥) → None ≡ position_of columns text
stranger columns text named strange =
    sym (ap (λ n. cond (nat_lt n (length columns)) (Some n) None) (none_named columns text named strange)
    ∙ ap (λ b. cond b (Some (length columns)) None) (le-ltb (length columns) (length columns) (omega arith)))
