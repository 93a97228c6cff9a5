-- The columns of a script have names, whatever its records.
use Rattle.std.proofs.Common.{◌≡◌, ℕ, Bool, true, false, List, [], ◌∷◌, Option, Some, None, is_none, inl, inr, refl, ap, sym, subst, option_map, option_and_then}
use Rattle.std.specs.Prelude.{◌&&◌, not, IfSome, IsTrue, MatchOption, if◌then◌else◌, ℤ, pos, ◌+ℤ◌, int_le, ◌^◌, codes}
use Rattle.std.specs.Str.{bytes_eq}
use Rattle.std.proofs.lemmas.List.Elements.{All-append, All-nil, All-cons}
use Rattle.bsi_rows.specs.Runs.{Done, shown_after}
use Rattle.bsi_rows.specs.Shown.{Shown}
use Rattle.bsi_rows.specs.Sizes.{new_machine}
use Rattle.bsi_schema.specs.Columns.{Declared, named_column, size_in, with_column, AreNamed}
use Rattle.bsi_schema.specs.Names.{is_name}
use Rattle.bsi_rows.specs.Refusals.{name_refusal}
use Rattle.bsi_schema.specs.declared.form.Form.{Form}
use Rattle.bsi_syntax.specs.Lines.{bad_line, done_line}
use Rattle.bsi_rows.specs.Fields.{Field}
use Rattle.bsi_syntax.specs.Numbers.{offset_of}
use Rattle.bsi_input.specs.Scripts.{Phase, Declaring, Running, set_up, IsTurn, AreTurns}
use Rattle.bsi_syntax.specs.declared.setups.DeclaredTable.{DeclaredTable}
use Rattle.bsi_syntax.specs.Setups.{can_begin, capacities_after, column_after, declared_after, form_in, is_begin, limit_of, table_after, with_new_column, Setup}

-- ---- what holds of an option's content

pub IfSome-map : {X Y : Type 0} (P : Y → Type 0) (f : X → Y) (o : Option X) → IfSome o (λ x. P (f x)) → IfSome (option_map f o) P
IfSome-map P f None is = tt
IfSome-map P f (Some x) is = is

pub IfSome-then : {X Y : Type 0} (P : Y → Type 0) (f : X → Option Y) (o : Option X) → ((x : X) → IfSome (f x) P) → IfSome (option_and_then f o) P
IfSome-then P f None is = tt
IfSome-then P f (Some x) is = is x

pub IfSome-choice : {X : Type 0} (P : X → Type 0) (b : Bool) (x y : Option X) → IfSome x P → IfSome y P → IfSome (if b then x else y) P
IfSome-choice P true x y is_x is_y = is_x
IfSome-choice P false x y is_x is_y = is_y

pub IfSome-all : {X : Type 0} (P : X → Type 0) (o : Option X) → ((x : X) → P x) → IfSome o P
IfSome-all P None is = tt
IfSome-all P (Some x) is = is x

-- ---- one more column

abbrev pub HasNamed : Declared → Type 0
HasNamed schema = AreNamed schema.columns

named_refusal : {E : Type 0} (named : Bool) (bad : E) (others : Option E) → is_none (if not named then Some bad else others) ≡ true → IsTrue named
named_refusal true bad others none = refl
named_refusal false bad others none = cc

more_named : (schema : Declared) (name : Field) (signed : Bool) (form : Form) (offset : ℤ) → HasNamed schema → IfSome (with_new_column schema name signed form offset) HasNamed
more_named schema name signed form offset named = by (is_none (name_refusal schema name)) (int_le (offset +ℤ pos (size_in form)) (pos (2 ^ 63))) refl
  where
    by : (a b : Bool) → is_none (name_refusal schema name) ≡ a → IfSome (if a && b then Some (with_column schema (named_column name form offset) signed) else None) HasNamed
    by true true free =
        All-append (λ column. IsTrue (is_name column.name)) schema.columns (named_column name form offset ∷ []) named
        (All-cons (λ column. IsTrue (is_name column.name)) (named_column name form offset) [] (named_refusal (is_name name) _ _ free) (All-nil _))
    by true false free = tt
    by false b free = tt

column_named : (schema : Declared) (fields : List Field) → HasNamed schema → IfSome (column_after schema fields) HasNamed
column_named schema [] named = tt
column_named schema (name ∷ []) named = tt
column_named schema (name ∷ form ∷ []) named = tt
column_named schema (name ∷ form ∷ sizes ∷ []) named =
    IfSome-then HasNamed (λ f. with_new_column schema name false f (pos 0)) (form_in form sizes) (λ f. more_named schema name false f (pos 0) named)
column_named schema (name ∷ form ∷ sizes ∷ offset ∷ []) named =
    IfSome-then HasNamed (λ f. option_and_then (λ o. with_new_column schema name true f o) (offset_of offset)) (form_in form sizes)
    (λ f. IfSome-then HasNamed (λ o. with_new_column schema name true f o) (offset_of offset) (λ o. more_named schema name true f o named))
column_named schema (name ∷ form ∷ sizes ∷ offset ∷ more ∷ fields) named = tt

-- ---- a record of the setup

abbrev pub IsNamedTable : DeclaredTable → Type 0
IsNamedTable table = HasNamed table.schema

pub table_named : (table : DeclaredTable) (fields : List Field) → IsNamedTable table → IfSome (table_after table fields) IsNamedTable
table_named table [] named = tt
table_named table (word ∷ fields) named =
    IfSome-choice IsNamedTable (bytes_eq word (codes "column")) _ _
    (IfSome-map IsNamedTable (λ schema. record table { schema = schema }) (column_after table.schema fields) (column_named table.schema fields named))
    (IfSome-choice IsNamedTable (bytes_eq word (codes "limit")) _ _
    (IfSome-map IsNamedTable (λ limit. record table { limit = limit }) (limit_of fields) (IfSome-all (λ after. IsNamedTable table) (limit_of fields) (λ after. named)))
    tt)

abbrev IsNamedSetup : Setup → Type 0
IsNamedSetup setup = IsNamedTable setup.table

declared_named : (before : Setup) (fields : List Field) → IsNamedSetup before → IfSome (declared_after before fields) IsNamedSetup
declared_named before [] named = tt
declared_named before (word ∷ fields) named =
    IfSome-choice IsNamedSetup (bytes_eq word (codes "feeder")) _ _
    (IfSome-map IsNamedSetup (λ capacities. record before { capacities = capacities }) (capacities_after before.capacities fields) (IfSome-all (λ after. IsNamedSetup before) (capacities_after before.capacities fields) (λ after. named)))
    (IfSome-map IsNamedSetup (λ table. record before { table = table }) (table_after before.table (word ∷ fields)) (table_named before.table (word ∷ fields) named))

-- ---- a phase

abbrev pub HasNames : Phase → Type 0
HasNames (Declaring setup) = AreNamed setup.table.schema.columns
HasNames (Running shown) = AreNamed shown.index.schema.columns

pub set_up_named : (setup : Setup) (fields : List Field) → HasNames (Declaring setup) → IfSome (set_up setup fields) HasNames
set_up_named setup fields named =
    IfSome-choice HasNames (is_begin fields) _ _
    (IfSome-choice HasNames (can_begin setup) (Some (Running (new_machine setup.table.schema setup.capacities setup.table.limit))) None named tt)
    (IfSome-map HasNames Declaring (declared_after setup fields) (declared_named setup fields named))

-- the schema is never another
pub same_schema : (shown : Shown) (past : List (Done)) → (shown_after shown past).index.schema ≡ shown.index.schema
unfolding shown_after
same_schema shown past = refl

named_by : (before : Phase) (set : Option Phase) (line : List ℕ) (next : Phase) → HasNames before → IfSome set HasNames
    → MatchOption set ((line ≡ bad_line) × (next ≡ before)) (λ after. (line ≡ done_line) × (next ≡ after)) → HasNames next
named_by before None line next named after turn = subst HasNames (sym turn.1) named
named_by before (Some phase) line next named after turn = subst HasNames (sym turn.1) after

pub turn_named : (phase : Phase) (fields : List Field) (line : List ℕ) (next : Phase) → HasNames phase → IsTurn phase fields line next → HasNames next
turn_named (Declaring setup) fields line next named turn = named_by (Declaring setup) (set_up setup fields) line next named (set_up_named setup fields named) turn
turn_named (Running shown) fields line next named (inl bad) = subst HasNames (sym bad.same) named
turn_named (Running shown) fields line next named (inr done) =
    subst HasNames (sym done.after) (subst AreNamed (ap (λ schema. schema.columns) (sym (same_schema shown ((done.event, done.reply) ∷ [])))) named)

pub turns_named : (first : Phase) (records : List (List Field)) (lines : List (List ℕ)) (last : Phase) → HasNames first → AreTurns first records lines last → HasNames last
unfolding AreTurns
turns_named first [] [] last named turns = subst HasNames (sym turns) named
turns_named first [] (line ∷ lines) last named turns = absurd turns
turns_named first (fields ∷ records) [] last named turns = absurd turns
turns_named first (fields ∷ records) (line ∷ lines) last named turns = turns_named turns.0 records lines last (turn_named first fields line turns.0 named turns.1) turns.2
