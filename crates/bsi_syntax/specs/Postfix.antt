-- A parser of predicates, one field at a time: a comparison is `name sign constant`, and `and`, `or` and `not` follow
-- their operands (`after_field`).
use Rattle.std.specs.Prelude.{◌≡◌, ℕ, Bool, true, false, if◌then◌else◌, List, [], ◌∷◌, map, reverse, Option, Some, None, option_map, option_and_then, Result, Ok, Err, codes, Box}
use Rattle.std.specs.Option.{option_or}
use Rattle.std.specs.Ptr.{null_ptr}
use Rattle.std.specs.Str.{bytes_eq}
use Rattle.std.specs.declared.alloc.Global.{Global}
use Rattle.bsi_digits.specs.declared.op.Op.{Op}
use Rattle.bsi_digits.specs.declared.op.Op.TheVariants.{Eq, Ne, Lt, Le, Gt, Ge}
use Rattle.bsi_rows.specs.declared.query.Pred.{Pred, All, Compare, Columns, Null, Both', Either', Not'}
use Rattle.bsi_syntax.specs.declared.grammar.QuestionError.{QuestionError}
use Rattle.bsi_syntax.specs.declared.grammar.QuestionError.TheVariants.{NoMemory, Stopped}
use Rattle.bsi_syntax.specs.declared.grammar.Stop.{Stop}
use Rattle.bsi_syntax.specs.declared.predicates.Pending.{Pending}
use Rattle.bsi_syntax.specs.declared.predicates.Pending.TheVariants.{Nothing, Column, Comparison}
use Rattle.bsi_rows.specs.Fields.{Field}
use Rattle.bsi_syntax.specs.Vocabularies.{Words}

-- A box without an address.
abbrev pub nowhere : Box (Unit {0}) Global
nowhere = record { ptr = null_ptr; alloc = record { memory = record { seal = tt } }; value = tt }

-- A predicate without the addresses of its boxes.
abbrev pub plain : Pred → Pred
plain All = All
plain (Compare c op n) = Compare c op n
plain (Columns a op b) = Columns a op b
plain (Null c) = Null c
plain (Both' p first q second) = Both' nowhere (plain first) nowhere (plain second)
plain (Either' p first q second) = Either' nowhere (plain first) nowhere (plain second)
plain (Not' p pred) = Not' nowhere (plain pred)

-- The stack of predicates, without addresses, and the newest first.
abbrev pub newest_first : List Pred → List Pred
newest_first preds = reverse (map plain preds)

-- The state of the parser: what the last fields begin, and the stack of predicates, the newest first.
abbrev pub State : Type 0
State = Pending × List Pred

abbrev pub begun : Pending → List Pred → Option State
begun pending stack = Some (pending, stack)

abbrev pub ready : List Pred → Option State
ready stack = begun Nothing stack

-- The state after a call, or none if the fields are the start of no predicate. The stack has the oldest first.
abbrev pub state_of : Option Pending → List Pred → Option State
state_of read stack = option_map (λ next. (next, newest_first stack)) read

-- The state after a call that may stop at a field. If memory was refused, any state.
abbrev pub IsState : Result Pending QuestionError → List Pred → Option State → Type 0
IsState (Ok next) stack state = Some (next, newest_first stack) ≡ state
IsState (Err (Stopped stop)) stack state = None ≡ state
IsState (Err NoMemory) stack state = Unit {0}

-- A predicate that was popped, without addresses.
abbrev pub plain_of : Result Pred Stop → Option Pred
plain_of (Ok pred) = Some (plain pred)
plain_of (Err stop) = None

-- The conjunction of two predicates, or else their disjunction.
abbrev pub joint : Bool → Pred → Pred → Pred
joint both first second = if both then Both' nowhere first nowhere second else Either' nowhere first nowhere second

-- The state after `and` or `or`.
abbrev pub joined : Bool → List Pred → Option State
joined both (second ∷ first ∷ stack) = ready (joint both first second ∷ stack)
joined both stack = None

-- The state after `not`.
abbrev pub negated : List Pred → Option State
negated (pred ∷ stack) = ready (Not' nowhere pred ∷ stack)
negated [] = None

-- The state after the first field of a token: a word, or a column's name.
abbrev pub after_word : Words → List Pred → Field → Option State
after_word words stack field =
    if bytes_eq field (codes "all") then ready (All ∷ stack)
    else (if bytes_eq field (codes "and") then joined true stack
    else (if bytes_eq field (codes "or") then joined false stack
    else (if bytes_eq field (codes "not") then negated stack
    else option_map (λ c. (Column c, stack)) (words.column field))))

-- The comparison that a sign means.
abbrev pub op_of : Field → Option Op
op_of sign =
    if bytes_eq sign (codes "=") then Some Eq
    else (if bytes_eq sign (codes "!=") then Some Ne
    else (if bytes_eq sign (codes "<") then Some Lt
    else (if bytes_eq sign (codes "<=") then Some Le
    else (if bytes_eq sign (codes ">") then Some Gt
    else (if bytes_eq sign (codes ">=") then Some Ge
    else None)))))

-- The state after the field that follows a column's name.
abbrev pub after_name : ℕ → List Pred → Field → Option State
after_name c stack field =
    if bytes_eq field (codes "null") then ready (Null c ∷ stack)
    else option_map (λ op. (Comparison c op, stack)) (op_of field)

-- The column of a name, if it may be compared with column c.
abbrev pub alike_column : Words → ℕ → Field → Option ℕ
alike_column words c name =
    option_and_then (λ other. if words.alike c other then Some other else None) (words.column name)

-- The state after the field that follows a sign: a constant, or else the name of a column that may be compared.
abbrev pub after_sign : Words → ℕ → Op → List Pred → Field → Option State
after_sign words c op stack field =
    option_or (option_map (λ (other, n). (Nothing, Compare c other n ∷ stack)) (words.comparison c op field))
    (option_map (λ other. (Nothing, Columns c op other ∷ stack)) (alike_column words c field))

-- The state after one more field, or none if the fields are the start of no predicate.
abbrev pub after_field : Words → Pending → List Pred → Field → Option State
after_field words Nothing stack field = after_word words stack field
after_field words (Column c) stack field = after_name c stack field
after_field words (Comparison c op) stack field = after_sign words c op stack field

-- The state after all fields of a list.
unfoldable pub after_fields : Words → List Field → Pending → List Pred → Option State
after_fields words [] pending stack = begun pending stack
after_fields words (field ∷ fields) pending stack =
    option_and_then (λ (next, preds). after_fields words fields next preds) (after_field words pending stack field)

-- The only predicate on the stack, if no token is incomplete.
abbrev pub only_of : Pending → List Pred → Option Pred
only_of Nothing (pred ∷ []) = Some pred
only_of pending stack = None
