-- The fields of a record, by their places.
use Rattle.std.proofs.Common.{◌≡◌, ℕ, zero, suc, ◌+◌, ◌<◌, ◌≤◌, List, [], ◌∷◌, ◌++◌, length, get_or, drop, take, Option, Some, None, option_map, unwrap_or, arith, ap, refl}
use Rattle.csv.specs.Records.{field_at}
use Rattle.bsi_rows.specs.Fields.{Field}
use Rattle.bsi_syntax.specs.Reading.{texts, Lent}

-- the field at a place, or no byte
pub at_place : (fields : List Field) (index : ℕ) → get_or fields index [] ≡ unwrap_or (field_at fields index) []
unfolding field_at
at_place [] index = refl
at_place (field ∷ fields) zero = refl
at_place (field ∷ fields) (suc index) = at_place fields index

-- the field at the place of one
pub is_there : (fields : List Field) (index : ℕ) → index < length fields → field_at fields index ≡ Some (get_or fields index [])
unfolding field_at
is_there [] index within = absurd (omega arith)
is_there (field ∷ fields) zero within = refl
is_there (field ∷ fields) (suc index) within = is_there fields index (omega arith)

-- the text of what was found, or of another
pub text_of : {B : Type 0} (text : B → Field) (found : Option B) (other : B) → text (unwrap_or found other) ≡ unwrap_or (option_map text found) (text other)
text_of text None other = refl
text_of text (Some x) other = refl

-- a record that begins with a word
pub behind_word : (fields : List Field) (word : Field) → field_at fields 0 ≡ Some word → fields ≡ word ∷ drop 1 fields
unfolding field_at
behind_word [] word first = cc
behind_word (field ∷ fields) word first = cc

-- no field from a place on, and the last field alone
pub no_field : (fields : List Field) (index : ℕ) → field_at fields index ≡ None → drop index fields ≡ []
unfolding field_at
no_field [] zero none = refl
no_field [] (suc index) none = refl
no_field (field ∷ fields) zero none = cc
no_field (field ∷ fields) (suc index) none = no_field fields index none

pub last_field : (fields : List Field) (index : ℕ) (text : Field) → field_at fields index ≡ Some text → length fields ≤ index + 1 → drop index fields ≡ text ∷ []
unfolding field_at
last_field [] index text at few = cc
last_field (field ∷ []) zero text at few = cc
last_field (field ∷ another ∷ fields) zero text at few = absurd (omega arith)
last_field (field ∷ fields) (suc index) text at few = last_field fields index text at (omega arith)

-- the fields of a record of four or more, after its word
pub three_behind : (fields : List Field) → 4 ≤ length fields → drop 1 fields ≡ get_or fields 1 [] ∷ get_or fields 2 [] ∷ get_or fields 3 [] ∷ drop 4 fields
three_behind [] four = absurd (omega arith)
three_behind (a ∷ []) four = absurd (omega arith)
three_behind (a ∷ b ∷ []) four = absurd (omega arith)
three_behind (a ∷ b ∷ c ∷ []) four = absurd (omega arith)
three_behind (a ∷ b ∷ c ∷ d ∷ fields) four = refl

-- one more field
pub take_on : (fields : List Field) (index : ℕ) (text : Field) → field_at fields index ≡ Some text → take (index + 1) fields ≡ take index fields ++ text ∷ []
unfolding field_at
take_on [] index text at = cc
take_on (field ∷ fields) zero text at = let same : field ≡ text = cc in ap (λ t. t ∷ []) same
take_on (field ∷ fields) (suc index) text at =
    let next : suc index + 1 ≡ suc (index + 1) = omega arith in
    rw next (ap (λ fs. field ∷ fs) (take_on fields index text at))

-- one more that is lent
pub texts_more : (lent : List Lent) (more : Lent) → texts (lent ++ more ∷ []) ≡ texts lent ++ more.now ∷ []
texts_more [] more = refl
texts_more (one ∷ lent) more = ap (λ fs. one.now ∷ fs) (texts_more lent more)
