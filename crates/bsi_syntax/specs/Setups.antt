-- What the records before `begin` declare, by their fields.
use Rattle.std.specs.Prelude.{◌≡◌, is_some, unwrap_or, ℕ, ◌≤◌, All, Bool, true, false, ◌&&◌, nat_lt, if◌then◌else◌, List, [], ◌∷◌, ◌++◌, length, reverse, Option, Some, None, option_map, option_and_then, codes, ℤ, pos, ◌+ℤ◌, int_le}
use Rattle.std.specs.Option.{is_none}
use Rattle.std.specs.Str.{bytes_eq}
use Rattle.bsi_digits.specs.Digits.{max_end}
use Rattle.bsi_digits.specs.Refusal.{refusal}
use Rattle.bsi_rows.specs.Shown.{max_waiting, Shown}
use Rattle.bsi_rows.specs.Sizes.{new_machine}
use Rattle.bsi_schema.specs.declared.form.ColumnSpec.{ColumnSpec}
use Rattle.bsi_schema.specs.declared.form.Form.{Form}
use Rattle.bsi_schema.specs.declared.form.Form.TheVariants.{Slices, Equality, Range}
use Rattle.bsi_schema.specs.Columns.{max_slices, Declared, form_of, named_column, no_columns, size_in, with_column}
use Rattle.bsi_rows.specs.Refusals.{form_refusal, name_refusal}
use Rattle.bsi_rows.specs.Table.{max_feeders, max_rows}
use Rattle.bsi_syntax.specs.Bytes.{KnownBytes}
use Rattle.bsi_rows.specs.Fields.{Field}
use Rattle.bsi_syntax.specs.Numbers.{bases_of, number_between, offset_of}
use Rattle.bsi_syntax.specs.declared.setups.DeclaredTable.{DeclaredTable}

-- A table of columns and a limit.
abbrev pub declared_table : Declared → ℕ → DeclaredTable
declared_table schema limit = record { schema = schema; limit = limit }

-- The table before any declaration: no column, and the greatest limit.
abbrev pub undeclared_table : DeclaredTable
undeclared_table = declared_table no_columns max_rows

-- A setup: the columns, the limit, and the capacity of each feeder.
pub record Setup : Type 0 where
  pub table : DeclaredTable
  pub capacities : List ℕ

abbrev pub nothing_declared : Setup
nothing_declared = record { table = undeclared_table; capacities = [] }

-- ---- a column

-- Bases that a column can have, the least significant first.
abbrev pub checked_bases : List ℕ → KnownBytes
checked_bases bases = if is_none (refusal bases) then Some (reverse bases) else None

-- The form that a word and a text spell.
abbrev pub form_in : Field → Field → Option Form
form_in word text =
    if bytes_eq word (codes "slices") then option_map Slices (number_between 1 max_slices text)
    else (if bytes_eq word (codes "equality") then option_map Equality (option_and_then checked_bases (bases_of text))
    else (if bytes_eq word (codes "range") then option_map Range (option_and_then checked_bases (bases_of text))
    else None))

-- The columns after one more, or none if the schema refuses it. `signed` tells whether the record has an offset.
abbrev pub with_new_column : Declared → Field → Bool → Form → ℤ → Option Declared
with_new_column schema name signed form offset =
    if is_none (name_refusal schema name) && int_le (offset +ℤ pos (size_in form)) (pos max_end)
    then Some (with_column schema (named_column name form offset) signed) else None

-- `NAME,FORM,SIZES` and `NAME,FORM,SIZES,OFFSET`
abbrev pub column_after : Declared → List Field → Option Declared
column_after schema (name ∷ form ∷ sizes ∷ []) =
    option_and_then (λ f. with_new_column schema name false f (pos 0)) (form_in form sizes)
column_after schema (name ∷ form ∷ sizes ∷ offset ∷ []) =
    option_and_then (λ f. option_and_then (λ o. with_new_column schema name true f o) (offset_of offset)) (form_in form sizes)
column_after schema fields = None

-- ---- a feeder, and the limit

-- The number from 1 to `most` that the only field spells.
abbrev pub only_number : ℕ → List Field → Option ℕ
only_number most (text ∷ []) = number_between 1 most text
only_number most fields = None

-- The capacities after one more feeder, of at most 64.
abbrev pub capacities_after : List ℕ → List Field → KnownBytes
capacities_after capacities fields =
    if nat_lt (length capacities) max_feeders then option_map (λ n. capacities ++ n ∷ []) (only_number max_waiting fields) else None

abbrev pub limit_of : List Field → Option ℕ
limit_of fields = only_number max_rows fields

-- ---- a record

-- The columns and the limit after a record that declares a column or the limit.
abbrev pub table_after : DeclaredTable → List Field → Option DeclaredTable
table_after table [] = None
table_after table (word ∷ fields) =
    if bytes_eq word (codes "column")
    then option_map (λ schema. record table { schema = schema }) (column_after table.schema fields)
    else (if bytes_eq word (codes "limit") then option_map (λ limit. record table { limit = limit }) (limit_of fields)
    else None)

-- The setup after a record, or none if the record is bad.
abbrev pub declared_after : Setup → List Field → Option Setup
declared_after before [] = None
declared_after before (word ∷ fields) =
    if bytes_eq word (codes "feeder")
    then option_map (λ capacities. record before { capacities = capacities })
    (capacities_after before.capacities fields)
    else option_map (λ table. record before { table = table }) (table_after before.table (word ∷ fields))

-- The record is `begin`.
abbrev pub is_begin : List Field → Bool
is_begin (word ∷ []) = bytes_eq word (codes "begin")
is_begin fields = false

-- A script can begin: there are a column and a feeder.
abbrev pub can_begin : Setup → Bool
can_begin setup = nat_lt 0 (length setup.table.schema.columns) && nat_lt 0 (length setup.capacities)

-- The machine of a setup.
abbrev pub machine_of : Setup → Shown
machine_of setup = new_machine setup.table.schema setup.capacities setup.table.limit

-- ---- what functions on records do

-- The form of a column, if its bases are valid.
abbrev pub checked_form : ColumnSpec → Option Form
checked_form spec = if is_none (form_refusal spec) then Some (form_of spec) else None

-- The offset after the sizes, if there is one. None, if something else follows.
abbrev pub given_offset : List Field → Option (Option ℤ)
given_offset [] = Some None
given_offset (offset ∷ []) = option_map (λ x. Some x) (offset_of offset)
given_offset fields = None

-- The columns after one more of a form, from an offset, or else from 0.
abbrev pub added_after : Declared → Field → ColumnSpec → Option ℤ → Option Declared
added_after schema name spec offset =
    option_and_then (λ f. with_new_column schema name (is_some offset) f (unwrap_or offset (pos 0))) (checked_form spec)

-- A record was carried out and led to `new`, or it is bad and nothing changed.
abbrev pub IsChange : {T : Type 0} → Option T → T → T → Bool → Type 0
IsChange after old new done = (done ≡ is_some after) × (new ≡ unwrap_or after old)

-- The capacities and the limit that a setup can have.
pub record IsSetup (capacities : List ℕ) (limit : ℕ) : Type 0 where
  -- There are at most 64 feeders.
  pub few : length capacities ≤ max_feeders
  -- Each feeder has a capacity from 1 to 65,536.
  pub each : All (λ n. (1 ≤ n) × (n ≤ max_waiting)) capacities
  -- The limit is at least 1.
  pub some : 1 ≤ limit
  -- The limit is at most 2^32.
  pub most : limit ≤ max_rows
