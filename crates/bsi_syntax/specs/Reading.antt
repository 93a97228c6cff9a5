-- What a function that reads fields returns: a value that they spell, or an error if they spell none (`IsParsedAs`).
use Rattle.std.specs.Prelude.{ℕ, List, [], ◌∷◌, map, Option, Some, None, option_map, Result, Ok, Err, MatchOption}
use Rattle.std.specs.Borrow.{Bor}
use Rattle.bsi_rows.specs.Fields.{Field}
use Rattle.bsi_syntax.specs.declared.grammar.QuestionError.{QuestionError}
use Rattle.bsi_syntax.specs.declared.grammar.QuestionError.TheVariants.{NoMemory, Stopped}
use Rattle.bsi_syntax.specs.declared.grammar.Stop.{Stop}

-- What was read has the property, or nothing has it, if nothing was read.
abbrev pub IsReadAs : {T : Type 0} → (T → Type 0) → Option T → Type 0
IsReadAs {T} Is read = MatchOption read ((x : T) → Is x → ⊥) Is

-- The same for a reader that says where it stopped, and may be refused memory.
abbrev pub IsParsedAs : {T : Type 0} → (T → Type 0) → Result T QuestionError → Type 0
IsParsedAs {T} Is (Ok x) = Is x
IsParsedAs {T} Is (Err (Stopped stop)) = (x : T) → Is x → ⊥
IsParsedAs {T} Is (Err NoMemory) = Unit {0}

-- A borrowed field.
abbrev pub Lent : Type 0
Lent = Bor (List ℕ)

-- The bytes of borrowed fields.
abbrev pub texts : List Lent → List Field
texts fields = map (λ field. field.now) fields

-- What the first fields were read as, and the fields after them.
abbrev pub was_read : {T : Type 0} → Result (T × Bor (List Lent)) Stop → Option (T × List Field)
was_read (Ok (x, rest)) = Some (x, texts rest.now)
was_read (Err stop) = None

-- What the first field is read as, and the fields after it.
abbrev pub first_as : {T : Type 0} → (Field → Option T) → List Field → Option (T × List Field)
first_as read [] = None
first_as read (field ∷ rest) = option_map (λ x. (x, rest)) (read field)
