-- The text of a logical schema: what its records say, one after another, or why they say none (`IsLogicalFault`).
use Rattle.std.specs.Prelude.{◌≡◌, ℕ, ◌+◌, ◌<◌, ◌≤◌, List, [], ◌∷◌, ◌++◌, length, Result, Ok, Err, IsOk}
use Rattle.csv.specs.declared.parser.State.{State}
use Rattle.bsi_rows.specs.Fields.{Field}
use Rattle.bsi_input.specs.Formats.{max_records}
use Rattle.bsi_input.specs.Texts.{AreAllRecords, AreFirstRecords, AreTooMany}
use Rattle.bsi_input.specs.declared.rows.SourceFault.TheVariants as source
use Rattle.bsi_logical.specs.Logical.{nothing_said, Logical}
use Rattle.bsi_logical.specs.Records.{record_said, Said}
use Rattle.bsi_logical.specs.declared.logical_text.LogicalFault.{LogicalFault}
use Rattle.bsi_logical.specs.declared.logical_text.LogicalFault.TheVariants.{BadRecord, NoColumns, Source}
use Rattle.bsi_logical.specs.declared.refusal.DeclareError.{DeclareError}
use Rattle.bsi_logical.specs.declared.refusal.DeclareError.TheVariants.{NoMemory, Refused}
use Rattle.bsi_logical.specs.declared.refusal.Refusal.{Refusal}
use Rattle.bsi_syntax.specs.Bytes.{Bytes}

-- What a list of records says after the ones before it.
abbrev pub said_then : (Logical → Said) → Said → Said
said_then next (Ok l) = next l
said_then next (Err why) = Err why

-- What records say, one after another.
abbrev pub records_said : Logical → List (List Field) → Said
records_said l [] = Ok l
records_said l (fields ∷ records) = said_then (λ after. records_said after records) (record_said l fields)

-- The bytes say a logical schema.
pub record Says (bytes : Bytes) (l : Logical) : Type 0 where
  -- The records of the bytes.
  pub records : List (List Field)
  -- The bytes have these records and no others.
  pub all : AreAllRecords bytes records
  -- There are at most 1,000,000 records.
  pub few : length records ≤ max_records
  -- The records, one after another, say the schema.
  pub said : records_said nothing_said records ≡ Ok l

-- The bytes say a logical schema of one column or more.
pub record IsLogicalText (bytes : Bytes) (l : Logical) : Type 0 where
  pub says : Says bytes l
  pub some : 0 < length l.schema.columns

-- ---- texts that say no schema

-- The record of a number, from 1, is refused for a reason.
pub record IsRefusedRecord (bytes : Bytes) (number : ℕ) (why : Refusal) : Type 0 where
  -- The records before the refused one.
  pub records : List (List Field)
  -- The fields of the refused record.
  pub fields : List Field
  -- The schema before the refused record.
  pub before : Logical
  -- The state of the parser after the refused record.
  pub state : State
  -- The bytes after the refused record.
  pub rest : List ℕ
  -- The text begins with `records` and the refused record, and goes on with the rest.
  pub first : AreFirstRecords bytes (records ++ fields ∷ []) state rest
  -- The number is one more than that of the records before.
  pub number_is : number ≡ length records + 1
  -- The number is at most 1,000,000.
  pub few : number ≤ max_records
  -- The records before the refused one say the schema `before`.
  pub said : records_said nothing_said records ≡ Ok before
  -- After that schema, the record is refused for the reason.
  pub bad : record_said before fields ≡ Err why

-- The bytes are the text of a logical schema that is too long.
pub record SaysTooLong (bytes : Bytes) : Type 0 where
  -- The first records of the bytes.
  pub records : List (List Field)
  -- The state of the parser after the records.
  pub state : State
  -- The bytes after the records.
  pub rest : List ℕ
  -- The bytes begin with the records, and go on with the rest.
  pub first : AreFirstRecords bytes records state rest
  -- The records are 1,000,000, and one more follows.
  pub too_long : AreTooMany records state rest
  -- The records say a logical schema.
  pub said : IsOk (records_said nothing_said records)

-- The records say no column.
pub record SaysNoColumn (bytes : Bytes) : Type 0 where
  pub logical : Logical
  pub says : Says bytes logical
  pub none : length logical.schema.columns ≡ 0

-- What a fault means for the bytes. The text has no header, so no fault is of one.
abbrev pub IsLogicalFault : List ℕ → LogicalFault → Type 0
IsLogicalFault bytes (BadRecord number why) = IsRefusedRecord bytes number why
IsLogicalFault bytes NoColumns = SaysNoColumn bytes
IsLogicalFault bytes (Source source.TooLong) = SaysTooLong bytes
IsLogicalFault bytes (Source source.BadHeader) = ⊥
IsLogicalFault bytes (Source fault) = Unit {0}

-- The fault of a record that was not carried out.
abbrev pub fault_of : ℕ → DeclareError → LogicalFault
fault_of number (Refused why) = BadRecord number why
fault_of number NoMemory = Source source.NoMemory

-- A text that says a schema is read as that schema, unless its reader fails or memory is refused.
abbrev pub Reads : Logical → Result Logical LogicalFault → Type 0
Reads l (Ok read) = read ≡ l
Reads l (Err (Source source.Read)) = Unit {0}
Reads l (Err (Source source.NoMemory)) = Unit {0}
Reads l (Err fault) = ⊥
