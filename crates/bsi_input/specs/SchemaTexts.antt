-- The text of a schema: the columns and the limit that its records declare.
use Rattle.std.specs.Prelude.{◌≡◌, ⊤, ℕ, ◌+◌, ◌<◌, ◌≤◌, List, [], ◌∷◌, ◌++◌, Option, None, Some, IsSome, MatchOption, length, option_and_then}
use Rattle.csv.specs.declared.parser.State.{State}
use Rattle.bsi_schema.specs.Columns.{Declared}
use Rattle.bsi_syntax.specs.Bytes.{Bytes}
use Rattle.bsi_rows.specs.Fields.{Field}
use Rattle.bsi_syntax.specs.Setups.{table_after, undeclared_table}
use Rattle.bsi_syntax.specs.declared.setups.DeclaredTable.{DeclaredTable}
use Rattle.bsi_input.specs.Formats.{max_records}
use Rattle.bsi_input.specs.Texts.{AreAllRecords, AreFirstRecords, AreTooMany}
use Rattle.bsi_input.specs.declared.rows.SourceFault.TheVariants as source
use Rattle.bsi_input.specs.declared.schema_text.SchemaFault.{SchemaFault}
use Rattle.bsi_input.specs.declared.schema_text.SchemaFault.TheVariants.{BadRecord, NoColumns, Source}

-- The columns and the limit after records that declare them, or none if a record is bad.
abbrev pub table_declared : DeclaredTable → List (List Field) → Option DeclaredTable
table_declared before [] = Some before
table_declared before (fields ∷ records) =
    option_and_then (λ after. table_declared after records) (table_after before fields)

-- The records of the bytes, at most 1,000,000, declare a table.
pub record Declares (bytes : Bytes) (declared : DeclaredTable) : Type 0 where
  -- The records of the bytes.
  pub records : List (List Field)
  -- The bytes have these records, and no others.
  pub all : AreAllRecords bytes records
  -- There are at most 1,000,000 records.
  pub few : length records ≤ max_records
  -- The records declare the table.
  pub declared_is : table_declared undeclared_table records ≡ Some declared

-- The bytes declare a schema, of one column or more, and a limit.
pub record IsSchemaText (bytes : Bytes) (schema : Declared) (limit : ℕ) : Type 0 where
  pub declares : Declares bytes (record { schema = schema; limit = limit })
  pub some : 0 < length schema.columns

-- ---- texts that declare no schema

-- The record of a number, from 1, is bad after the records before it.
pub record IsBadDeclaration (bytes : Bytes) (number : ℕ) : Type 0 where
  -- The records before the bad one.
  pub records : List (List Field)
  -- The bad record.
  pub fields : List Field
  -- The state of the parser after the bad record.
  pub state : State
  -- The bytes after the bad record.
  pub rest : List ℕ
  -- The text begins with `records`, and `fields` are the next record.
  pub first : AreFirstRecords bytes (records ++ fields ∷ []) state rest
  -- The number is that of the bad record, from 1.
  pub number_is : number ≡ length records + 1
  -- The bad record is one of the first 1,000,000.
  pub few : number ≤ max_records
  -- The records before it declare a table, and it declares nothing more.
  pub bad : MatchOption (table_declared undeclared_table records) ⊥ (λ now. table_after now fields ≡ None)

-- The first 1,000,000 records declare a table, and one more record follows.
pub record DeclaresTooLong (bytes : Bytes) : Type 0 where
  -- The first records of the bytes.
  pub records : List (List Field)
  -- The state of the parser after these records.
  pub state : State
  -- The bytes after these records.
  pub rest : List ℕ
  -- The bytes begin with these records.
  pub first : AreFirstRecords bytes records state rest
  -- There are 1,000,000 records, and one more follows.
  pub too_long : AreTooMany records state rest
  -- None of the records is bad.
  pub declared : IsSome (table_declared undeclared_table records)

-- The records declare no column.
pub record DeclaresNoColumn (bytes : Bytes) : Type 0 where
  pub declared : DeclaredTable
  pub declares : Declares bytes declared
  pub none : length declared.schema.columns ≡ 0

-- What a fault means for the bytes. A schema file has no header, so no fault is of one.
abbrev pub IsSchemaFault : List ℕ → SchemaFault → Type 0
IsSchemaFault bytes (BadRecord number) = IsBadDeclaration bytes number
IsSchemaFault bytes NoColumns = DeclaresNoColumn bytes
IsSchemaFault bytes (Source source.TooLong) = DeclaresTooLong bytes
IsSchemaFault bytes (Source source.BadHeader) = ⊥
IsSchemaFault bytes (Source fault) = ⊤
