-- Fields are read as the predicate that they spell, and as no other.
use Rattle.std.proofs.Common.{◌≡◌, ℕ, Bool, true, false, List, [], ◌∷◌, ◌++◌, ◌≤◌, length, Result, Err, Option, Some, None, option_map, option_and_then, ℤ, ap, ap₂, sym, ◌∙◌, refl, append_assoc, codes, subst}
use Rattle.std.proofs.lemmas.List.{append-nil}
use Rattle.std.specs.Option.{option_or}
use Rattle.std.specs.Prelude.{IsErr, IsErrAnd}
use Rattle.std.proofs.lemmas.Option.{option_and_then_some}
use Rattle.bsi_digits.specs.declared.op.Op.{Op}
use Rattle.bsi_rows.specs.declared.query.Pred.{Pred, All, Compare, Columns, Null, Both', Either', Not'}
use Rattle.bsi_syntax.specs.declared.predicates.Pending.{Pending}
use Rattle.bsi_syntax.specs.declared.predicates.Pending.TheVariants.{Nothing, Column, Comparison}
use Rattle.bsi_rows.specs.Fields.{Field}
use Rattle.bsi_syntax.specs.Vocabularies.{NameNoWord, Words}
use Rattle.bsi_syntax.specs.Postfix.{after_field, after_fields, after_name, after_sign, after_word, alike_column, begun, joined, joint, negated, newest_first, nowhere, only_of, op_of, plain, ready, IsState, State}
use Rattle.bsi_syntax.specs.Predicates.{IsPredicate, sign_of, Spells}
use Rattle.bsi_syntax.specs.Reading.{IsParsedAs, IsReadAs}
use Rattle.bsi_syntax.specs.declared.grammar.QuestionError.{QuestionError}
use Rattle.bsi_syntax.specs.declared.grammar.QuestionError.TheVariants.{NoMemory, Stopped}
use Rattle.bsi_syntax.proofs.Firsts.{refused_on, stopped_on}
use Rattle.bsi_syntax.proofs.SpellWords.{alike_is, if_same, is_alike, mapped, name_leads, none_is_some, read_is_sign, sign_leads, some_same}

-- one more field
field_leads : (words : Words) (field : Field) (rest : List Field) (pending next : Pending) (stack after : List Pred)
    → after_field words pending stack field ≡ Some (next, after)
    → after_fields words (field ∷ rest) pending stack ≡ after_fields words rest next after
unfolding after_fields
field_leads words field rest pending next stack after step = ap (option_and_then (λ state. after_fields words rest state.0 state.1)) step

-- two spellings and a word
regrouped : (fields one two rest : List Field) (word : Field) → fields ≡ one ++ two ++ word ∷ [] → fields ++ rest ≡ one ++ (two ++ word ∷ rest)
regrouped fields one two rest word is = ap (λ f. f ++ rest) is ∙ append_assoc (one ++ two) (word ∷ []) rest ∙ append_assoc one two (word ∷ rest)

-- the spelling of a predicate puts it on the stack
pub spelled_leads : (words : Words) (P : Pred) (fields rest : List Field) (stack : List Pred) → NameNoWord words → Spells words fields P
    → after_fields words (fields ++ rest) Nothing stack ≡ after_fields words rest Nothing (plain P ∷ stack)
unfolding Spells
spelled_leads words All fields rest stack named spelled =
    ap (λ f. after_fields words (f ++ rest) Nothing stack) spelled ∙ field_leads words (codes "all") rest Nothing Nothing stack (All ∷ stack) refl
spelled_leads words (Compare c op n) fields rest stack named spelled =
    let sign = spelled.2 in
    let number : after_field words (Comparison c sign) stack spelled.1 ≡ Some (Nothing, Compare c op n ∷ stack) =
    ap (λ (found : Option (Op × ℤ)). option_or (option_map (λ (compared : Op × ℤ). (Nothing, Compare c compared.0 compared.1 ∷ stack)) found)
    (option_map (λ other. (Nothing, Columns c sign other ∷ stack)) (alike_column words c spelled.1))) spelled.5 in
    ap (λ f. after_fields words (f ++ rest) Nothing stack) spelled.3
    ∙ field_leads words spelled.0 (sign_of sign ∷ spelled.1 ∷ rest) Nothing (Column c) stack stack (name_leads words spelled.0 c stack named spelled.4)
    ∙ field_leads words (sign_of sign) (spelled.1 ∷ rest) (Column c) (Comparison c sign) stack stack (sign_leads sign c stack)
    ∙ field_leads words spelled.1 rest (Comparison c sign) Nothing stack (Compare c op n ∷ stack) number
spelled_leads words (Columns a op b) fields rest stack named spelled =
    let other : after_field words (Comparison a op) stack spelled.1 ≡ Some (Nothing, Columns a op b ∷ stack) =
    ap₂ (λ (compared : Option (Op × ℤ)) (index : Option ℕ). option_or (option_map (λ (found : Op × ℤ). (Nothing, Compare a found.0 found.1 ∷ stack)) compared)
    (option_map (λ other. (Nothing, Columns a op other ∷ stack)) index)) spelled.4 (alike_is words a spelled.1 b spelled.5 spelled.6) in
    ap (λ f. after_fields words (f ++ rest) Nothing stack) spelled.2
    ∙ field_leads words spelled.0 (sign_of op ∷ spelled.1 ∷ rest) Nothing (Column a) stack stack (name_leads words spelled.0 a stack named spelled.3)
    ∙ field_leads words (sign_of op) (spelled.1 ∷ rest) (Column a) (Comparison a op) stack stack (sign_leads op a stack)
    ∙ field_leads words spelled.1 rest (Comparison a op) Nothing stack (Columns a op b ∷ stack) other
spelled_leads words (Null c) fields rest stack named spelled =
    ap (λ f. after_fields words (f ++ rest) Nothing stack) spelled.1
    ∙ field_leads words spelled.0 (codes "null" ∷ rest) Nothing (Column c) stack stack (name_leads words spelled.0 c stack named spelled.2)
    ∙ field_leads words (codes "null") rest (Column c) Nothing stack (Null c ∷ stack) refl
spelled_leads words (Both' p first q second) fields rest stack named spelled =
    ap (λ f. after_fields words f Nothing stack) (regrouped fields spelled.0 spelled.1 rest (codes "and") spelled.2)
    ∙ spelled_leads words first spelled.0 (spelled.1 ++ codes "and" ∷ rest) stack named spelled.3
    ∙ spelled_leads words second spelled.1 (codes "and" ∷ rest) (plain first ∷ stack) named spelled.4
    ∙ field_leads words (codes "and") rest Nothing Nothing (plain second ∷ plain first ∷ stack) (plain (Both' p first q second) ∷ stack) refl
spelled_leads words (Either' p first q second) fields rest stack named spelled =
    ap (λ f. after_fields words f Nothing stack) (regrouped fields spelled.0 spelled.1 rest (codes "or") spelled.2)
    ∙ spelled_leads words first spelled.0 (spelled.1 ++ codes "or" ∷ rest) stack named spelled.3
    ∙ spelled_leads words second spelled.1 (codes "or" ∷ rest) (plain first ∷ stack) named spelled.4
    ∙ field_leads words (codes "or") rest Nothing Nothing (plain second ∷ plain first ∷ stack) (plain (Either' p first q second) ∷ stack) refl
spelled_leads words (Not' p pred) fields rest stack named spelled =
    ap (λ f. after_fields words (f ++ rest) Nothing stack) spelled.1
    ∙ ap (λ f. after_fields words f Nothing stack) (append_assoc spelled.0 (codes "not" ∷ []) rest)
    ∙ spelled_leads words pred spelled.0 (codes "not" ∷ rest) stack named spelled.2
    ∙ field_leads words (codes "not") rest Nothing Nothing (plain pred ∷ stack) (plain (Not' p pred) ∷ stack) refl

-- what is spelled is read
pub is_read : (words : Words) → NameNoWord words → (fields : List Field) (P : Pred) → Spells words fields P
    → after_fields words fields Nothing [] ≡ Some (Nothing, plain P ∷ [])
unfolding after_fields
is_read words named fields P spelled = ap (λ f. after_fields words f Nothing []) (sym (append-nil fields)) ∙ spelled_leads words P fields [] [] named spelled

-- the fields spell these predicates, the newest first
abbrev AreSpelled : Words → List Field → List Pred → Type 0
AreSpelled words fields [] = fields ≡ []
AreSpelled words fields (P ∷ stack) = (before : List Field) × (own : List Field) × (fields ≡ before ++ own) × AreSpelled words before stack × Spells words own P

-- they do so up to what the last ones have begun
abbrev AreRead : Words → List Field → Pending → List Pred → Type 0
AreRead words fields Nothing stack = AreSpelled words fields stack
AreRead words fields (Column c) stack =
    (before : List Field) × (name : Field) × (fields ≡ before ++ name ∷ []) × (words.column name ≡ Some c) × AreSpelled words before stack
AreRead words fields (Comparison c op) stack =
    (before : List Field) × (name : Field) × (fields ≡ before ++ name ∷ sign_of op ∷ []) × (words.column name ≡ Some c) × AreSpelled words before stack

reached : (words : Words) (fields : List Field) (next : Pending) (after : List Pred) (state : State) → Some (next, after) ≡ Some state
    → AreRead words fields next after → AreRead words fields state.0 state.1
reached words fields next after state is read = subst (λ s. AreRead words fields s.0 s.1) (some_same (next, after) state is) read

joined_fields : (fields before own lower one : List Field) (word : Field) → fields ≡ before ++ own → before ≡ lower ++ one
    → fields ++ word ∷ [] ≡ lower ++ (one ++ own ++ word ∷ [])
joined_fields fields before own lower one word is was =
    ap (λ f. f ++ word ∷ []) (is ∙ ap (λ b. b ++ own) was) ∙ append_assoc (lower ++ one) own (word ∷ []) ∙ append_assoc lower one (own ++ word ∷ [])
    ∙ ap (λ t. lower ++ t) (sym (append_assoc one own (word ∷ [])))

-- after a word that joins two predicates into one
joined_read : (words : Words) (fields : List Field) (stack : List Pred) (both : Bool) (word : Field) (state : State) → AreSpelled words fields stack
    → ((one two : List Field) (first second : Pred) → Spells words one first → Spells words two second → Spells words (one ++ two ++ word ∷ []) (joint both first second))
    → joined both stack ≡ Some state → AreRead words (fields ++ word ∷ []) state.0 state.1
joined_read words fields [] both word state spelled joins is = cc
joined_read words fields (second ∷ []) both word state spelled joins is = cc
joined_read words fields (second ∷ first ∷ stack) both word state spelled joins is =
    let lower = spelled.3 in
    reached words (fields ++ word ∷ []) Nothing (joint both first second ∷ stack) state is
    (lower.0, lower.1 ++ spelled.1 ++ word ∷ [], joined_fields fields spelled.0 spelled.1 lower.0 lower.1 word spelled.2 lower.2, lower.3, joins lower.1 spelled.1 first second lower.4 spelled.4)

not_read : (words : Words) (fields : List Field) (stack : List Pred) (field : Field) (state : State) → AreSpelled words fields stack
    → field ≡ codes "not" → negated stack ≡ Some state → AreRead words (fields ++ field ∷ []) state.0 state.1
unfolding Spells
not_read words fields [] field state spelled word is = cc
not_read words fields (pred ∷ stack) field state spelled word is =
    reached words (fields ++ field ∷ []) Nothing (Not' nowhere pred ∷ stack) state is
    (spelled.0, spelled.1 ++ field ∷ [], ap (λ f. f ++ field ∷ []) spelled.2 ∙ append_assoc spelled.0 spelled.1 (field ∷ []), spelled.3, (spelled.1, ap (λ w. spelled.1 ++ w ∷ []) word, spelled.4))

word_read : (words : Words) (fields : List Field) (stack : List Pred) (field : Field) (state : State) → AreSpelled words fields stack
    → after_word words stack field ≡ Some state → AreRead words (fields ++ field ∷ []) state.0 state.1
unfolding Spells
word_read words fields stack field state spelled is =
    if_same field (codes "all") _ _ (Some state) is
    (λ word found. reached words (fields ++ field ∷ []) Nothing (All ∷ stack) state found (fields, field ∷ [], refl, spelled, ap (λ w. w ∷ []) word)) λ is.
    if_same field (codes "and") _ _ (Some state) is (λ word. joined_read words fields stack true field state spelled λ one two first second p q. (one, two, ap (λ w. one ++ two ++ w ∷ []) word, p, q)) λ is.
    if_same field (codes "or") _ _ (Some state) is (λ word. joined_read words fields stack false field state spelled λ one two first second p q. (one, two, ap (λ w. one ++ two ++ w ∷ []) word, p, q)) λ is.
    if_same field (codes "not") _ _ (Some state) is (not_read words fields stack field state spelled) λ is.
    mapped (λ c. (Column c, stack)) (words.column field) state is λ c at found.
    reached words (fields ++ field ∷ []) (Column c) stack state found (fields, field, refl, at, spelled)

-- a name and one field more
behind : (fields before : List Field) (name field : Field) → fields ≡ before ++ name ∷ [] → fields ++ field ∷ [] ≡ before ++ name ∷ field ∷ []
behind fields before name field is = ap (λ f. f ++ field ∷ []) is ∙ append_assoc before (name ∷ []) (field ∷ [])

name_read : (words : Words) (fields : List Field) (c : ℕ) (stack : List Pred) (field : Field) (state : State) → AreRead words fields (Column c) stack
    → after_name c stack field ≡ Some state → AreRead words (fields ++ field ∷ []) state.0 state.1
unfolding Spells
name_read words fields c stack field state read is =
    if_same field (codes "null") _ _ (Some state) is
    (λ word found. reached words (fields ++ field ∷ []) Nothing (Null c ∷ stack) state found
    (read.0, read.1 ∷ field ∷ [], behind fields read.0 read.1 field read.2, read.4, (read.1, ap (λ w. read.1 ∷ w ∷ []) word, read.3))) λ is.
    mapped (λ op. (Comparison c op, stack)) (op_of field) state is λ op sign found.
    reached words (fields ++ field ∷ []) (Comparison c op) stack state found
    (read.0, read.1, behind fields read.0 read.1 field read.2 ∙ ap (λ s. read.0 ++ read.1 ∷ s ∷ []) (read_is_sign field op sign), read.3, read.4)

number_read : (words : Words) (fields : List Field) (c : ℕ) (op : Op) (stack : List Pred) (field : Field) (state : State) → AreRead words fields (Comparison c op) stack
    → after_sign words c op stack field ≡ Some state → AreRead words (fields ++ field ∷ []) state.0 state.1
unfolding Spells
number_read words fields c op stack field state read is = by (words.comparison c op field) refl is
  where
    whole : fields ++ field ∷ [] ≡ read.0 ++ read.1 ∷ sign_of op ∷ field ∷ []
    whole = ap (λ f. f ++ field ∷ []) read.2 ∙ append_assoc read.0 (read.1 ∷ sign_of op ∷ []) (field ∷ [])

    by : (found : Option (Op × ℤ)) → words.comparison c op field ≡ found
        → option_or (option_map (λ (compared : Op × ℤ). (Nothing, Compare c compared.0 compared.1 ∷ stack)) found) (option_map (λ other. (Nothing, Columns c op other ∷ stack)) (alike_column words c field)) ≡ Some state
        → AreRead words (fields ++ field ∷ []) state.0 state.1
    by (Some compared) number found =
        reached words (fields ++ field ∷ []) Nothing (Compare c compared.0 compared.1 ∷ stack) state found
        (read.0, read.1 ∷ sign_of op ∷ field ∷ [], whole, read.4, (read.1, field, op, refl, read.3, number))
    by None none is =
        mapped (λ other. (Nothing, Columns c op other ∷ stack)) (alike_column words c field) state is λ other index found.
        let alike = is_alike words c field other index in
        reached words (fields ++ field ∷ []) Nothing (Columns c op other ∷ stack) state found
        (read.0, read.1 ∷ sign_of op ∷ field ∷ [], whole, read.4, (read.1, field, refl, read.3, none, alike.0, alike.1))

field_read : (words : Words) (fields : List Field) (pending : Pending) (stack : List Pred) (field : Field) (state : State) → AreRead words fields pending stack
    → after_field words pending stack field ≡ Some state → AreRead words (fields ++ field ∷ []) state.0 state.1
field_read words fields Nothing stack field state read is = word_read words fields stack field state read is
field_read words fields (Column c) stack field state read is = name_read words fields c stack field state read is
field_read words fields (Comparison c op) stack field state read is = number_read words fields c op stack field state read is

fields_read : (words : Words) (before fields : List Field) (pending : Pending) (stack : List Pred) (state : State) → AreRead words before pending stack
    → after_fields words fields pending stack ≡ Some state → AreRead words (before ++ fields) state.0 state.1
unfolding after_fields
fields_read words before [] pending stack state read is =
    reached words (before ++ []) pending stack state is (subst (λ f. AreRead words f pending stack) (sym (append-nil before)) read)
fields_read words before (field ∷ fields) pending stack state read is =
    option_and_then_some (λ (s : State). after_fields words fields s.0 s.1) (after_field words pending stack field) state is λ next step rest.
    subst (λ f. AreRead words f state.0 state.1) (append_assoc before (field ∷ []) fields)
    (fields_read words (before ++ field ∷ []) fields next.0 next.1 state (field_read words before pending stack field next read step) rest)

-- wherever the boxes lie, the same is spelled
spelled_anywhere : (words : Words) (P : Pred) (fields : List Field) → Spells words fields (plain P) → Spells words fields P
unfolding Spells
spelled_anywhere words All fields spelled = spelled
spelled_anywhere words (Compare c op n) fields spelled = spelled
spelled_anywhere words (Columns a op b) fields spelled = spelled
spelled_anywhere words (Null c) fields spelled = spelled
spelled_anywhere words (Both' p first q second) fields spelled =
    (spelled.0, spelled.1, spelled.2, spelled_anywhere words first spelled.0 spelled.3, spelled_anywhere words second spelled.1 spelled.4)
spelled_anywhere words (Either' p first q second) fields spelled =
    (spelled.0, spelled.1, spelled.2, spelled_anywhere words first spelled.0 spelled.3, spelled_anywhere words second spelled.1 spelled.4)
spelled_anywhere words (Not' p pred) fields spelled = (spelled.0, spelled.1, spelled_anywhere words pred spelled.0 spelled.2)

-- what is read is spelled
pub is_spelled : (words : Words) (fields : List Field) (P : Pred) → after_fields words fields Nothing [] ≡ Some (Nothing, P ∷ []) → Spells words fields P
is_spelled words fields P is =
    let read : AreSpelled words fields (P ∷ []) = fields_read words [] fields Nothing [] (Nothing, P ∷ []) refl is in
    subst (λ f. Spells words f P) (sym (read.2 ∙ ap (λ b. b ++ read.1) read.3)) read.4

pub is_spelled_anywhere : (words : Words) (fields : List Field) (P : Pred) → after_fields words fields Nothing [] ≡ Some (Nothing, plain P ∷ []) → Spells words fields P
is_spelled_anywhere words fields P is = spelled_anywhere words P fields (is_spelled words fields (plain P) is)

-- where the fields lead nowhere, they spell nothing
pub nothing_read : (words : Words) → NameNoWord words → (fields : List Field) (stack : List Pred) → stack ≡ []
    → None ≡ after_fields words fields Nothing (newest_first stack) → (P : Pred) → IsPredicate words fields P → ⊥
nothing_read words named fields stack empty leads P spelled =
    let nowhere : None ≡ after_fields words fields Nothing [] = leads ∙ ap (λ s. after_fields words fields Nothing (newest_first s)) empty in
    none_is_some _ (nowhere ∙ is_read words named fields P spelled.1)

-- a predicate that is alone
only_is : (pending : Pending) (stack : List Pred) (P : Pred) → Some P ≡ only_of pending stack → begun pending stack ≡ ready (P ∷ [])
only_is Nothing [] P is = absurd (none_is_some P (sym is))
only_is Nothing (Q ∷ []) P is = ap (λ R. ready (R ∷ [])) (sym (some_same P Q is))
only_is Nothing (Q ∷ R ∷ stack) P is = absurd (none_is_some P (sym is))
only_is (Column c) stack P is = absurd (none_is_some P (sym is))
only_is (Comparison c op) stack P is = absurd (none_is_some P (sym is))

-- the only predicate of a state
unfoldable pub only_at : Option State → Option Pred
only_at None = None
only_at (Some state) = only_of state.0 state.1

-- what they lead to is what they spell
pub only_read : (words : Words) → NameNoWord words → (fields : List Field) (before stack : List Pred) (pending : Pending) (read : Option Pred)
    → length fields ≤ 1000 → before ≡ [] → begun pending stack ≡ after_fields words fields Nothing (newest_first before) → option_map plain read ≡ only_of pending stack
    → IsReadAs (IsPredicate words fields) read
unfolding only_at
only_read words named fields before stack pending None few empty leads is = λ P spelled.
    let state : begun pending stack ≡ after_fields words fields Nothing [] = leads ∙ ap (λ s. after_fields words fields Nothing (newest_first s)) empty in
    let found : begun pending stack ≡ ready (plain P ∷ []) = state ∙ is_read words named fields P spelled.1 in
    none_is_some (plain P) (is ∙ ap only_at found)
only_read words named fields before stack pending (Some P) few empty leads is =
    let state : begun pending stack ≡ after_fields words fields Nothing [] = leads ∙ ap (λ s. after_fields words fields Nothing (newest_first s)) empty in
    (few, is_spelled_anywhere words fields P (sym state ∙ only_is pending stack (plain P) is))

-- where reading stops, they spell nothing
pub stops : (words : Words) → NameNoWord words → (fields : List Field) (before after : List Pred) (r : Result Pred QuestionError) (e : QuestionError)
    → IsErr r × IsErrAnd r (λ given. given ≡ e) → before ≡ [] → IsState (Err e) after (after_fields words fields Nothing (newest_first before))
    → IsParsedAs (IsPredicate words fields) r
stops words named fields before after r (Stopped stop) is empty state = stopped_on (IsPredicate words fields) r stop is (nothing_read words named fields before empty state)
stops words named fields before after r NoMemory is empty state = refused_on (IsPredicate words fields) r is
