-- The schema of a table and the limit that the bytes of a schema file declare: of whole numbers alone, or of kinds.
use Rattle.std.specs.Prelude.{◌≡◌, ◌⊎◌, ℕ, Result, Ok, Err}
use Rattle.bsi_schema.specs.Columns.{Declared}
use Rattle.bsi_input.specs.declared.rows.SourceFault.TheVariants as source
use Rattle.bsi_input.specs.SchemaTexts.{IsSchemaFault, IsSchemaText}
use Rattle.bsi_input.specs.declared.schema_text.SchemaFault.TheVariants as plain
use Rattle.bsi_logical.specs.LogicalTexts.{IsLogicalFault, IsLogicalText}
use Rattle.bsi_logical.specs.declared.logical_text.LogicalFault.{LogicalFault}
use Rattle.bsi_logical.specs.declared.logical_text.LogicalFault.TheVariants.{BadRecord, NoColumns, Source}
use Rattle.bsi_logical.specs.declared.schema_file.DeclaredSchema.{DeclaredSchema}
use Rattle.bsi_logical.specs.declared.table_schema.TableSchema.{TableSchema}
use Rattle.bsi_logical.specs.declared.table_schema.TableSchema.TheVariants.{Logical, Plain}
use Rattle.bsi_syntax.specs.Bytes.{Bytes}

-- The bytes say a schema of kinds and its limit.
abbrev pub SaysSchema : Bytes → TableSchema → ℕ → Type 0
SaysSchema bytes (Logical logical) limit = IsLogicalText bytes logical × (limit ≡ logical.limit)
SaysSchema bytes (Plain schema) limit = ⊥

-- A record of the bytes is bad in a schema of whole numbers alone.
abbrev pub IsOfKinds : Bytes → Type 0
IsOfKinds bytes = (number : ℕ) × IsSchemaFault bytes (plain.BadRecord number)

-- The bytes declare a schema and a limit: of whole numbers, unless a record is bad in such a schema.
abbrev pub DeclaresSchema : Bytes → TableSchema → ℕ → Type 0
DeclaresSchema bytes (Plain schema) limit = IsSchemaText bytes schema limit
DeclaresSchema bytes (Logical logical) limit = IsOfKinds bytes × SaysSchema bytes (Logical logical) limit

-- A fault of a schema of whole numbers none of whose records is bad.
abbrev pub IsPlainFault : Bytes → LogicalFault → Type 0
IsPlainFault bytes (BadRecord number why) = ⊥
IsPlainFault bytes NoColumns = IsSchemaFault bytes plain.NoColumns
IsPlainFault bytes (Source fault) = IsSchemaFault bytes (plain.Source fault)

-- Why the bytes declare no schema.
abbrev pub IsSchemaFileFault : Bytes → LogicalFault → Type 0
IsSchemaFileFault bytes fault = (IsOfKinds bytes × IsLogicalFault bytes fault) ⊎ IsPlainFault bytes fault

-- A schema of whole numbers and its limit were read, unless a reader failed or memory was refused.
abbrev pub ReadsPlain : Declared → ℕ → Result DeclaredSchema LogicalFault → Type 0
ReadsPlain schema limit (Ok file) = (file.schema ≡ Plain schema) × (file.limit ≡ limit)
ReadsPlain schema limit (Err (Source source.Read)) = Unit {0}
ReadsPlain schema limit (Err (Source source.NoMemory)) = Unit {0}
ReadsPlain schema limit (Err fault) = ⊥
