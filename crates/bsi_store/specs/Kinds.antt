-- What the file of a saved index says of the meaning of its numbers (`SaysSchema`), and the lines that answer questions
-- over it by that (`IsAnswer`).
use Rattle.std.specs.Borrow.{Bor}
use Rattle.std.specs.Prelude.{◌≡◌, List, []}
use Rattle.bsi_rows.specs.Fields.{Field}
use Rattle.bsi_rows.specs.Table.{Table}
use Rattle.bsi_answers.specs.declared.faults.FilesFault.TheVariants.{NoMemory}
use Rattle.bsi_input.specs.declared.rows.SourceFault.TheVariants as source
use Rattle.bsi_logical.specs.declared.logical_text.LogicalFault.{LogicalFault}
use Rattle.bsi_logical.specs.declared.logical_text.LogicalFault.TheVariants.{Source}
use Rattle.bsi_store.specs.declared.fault.FileFault.TheVariants.{BadKinds}
use Rattle.bsi_store.specs.declared.fault.StoreFault.{StoreFault}
use Rattle.bsi_store.specs.declared.fault.StoreFault.TheVariants.{Run, Unusable}
use Rattle.bsi_logical.specs.LogicalTexts.{IsLogicalText}
use Rattle.bsi_logical.specs.TableSchemas.{texts_of, words_of}
use Rattle.bsi_logical.specs.declared.table_schema.TableSchema.{TableSchema}
use Rattle.bsi_logical.specs.declared.table_schema.TableSchema.TheVariants.{Logical, Plain}
use Rattle.bsi_answers.specs.AskLines.{IsAskLineBy}
use Rattle.bsi_syntax.specs.Bytes.{Bytes}
use Rattle.bsi_syntax.specs.declared.grammar.Grammar.TheVariants.{Index}

-- The schema of a saved table: of whole numbers if its text of kinds is empty, and else the one that the text says.
abbrev pub SaysSchema : Bytes → Table → TableSchema → Type 0
SaysSchema kinds table (Plain schema) = (kinds ≡ []) × (schema ≡ table.schema)
SaysSchema kinds table (Logical logical) = IsLogicalText kinds logical × (logical.schema ≡ table.schema)

-- The text of kinds says no schema of the table.
abbrev pub SaysNoSchema : Bytes → Table → Type 0
SaysNoSchema kinds table = (schema : TableSchema) → SaysSchema kinds table schema → ⊥

-- The fault of a file whose text of kinds was not read as a schema.
abbrev pub kinds_fault : Bor Bytes → LogicalFault → StoreFault
kinds_fault path (Source source.NoMemory) = Run NoMemory
kinds_fault path (Source source.Read) = Run NoMemory
kinds_fault path fault = Unusable path BadKinds

-- A line that answers a record of questions over a table of this schema.
abbrev pub IsAnswer : TableSchema → Table → List Field → Bytes → Type 0
IsAnswer schema table fields line =
    IsAskLineBy Index (words_of schema) (texts_of schema) table.schema table.rows fields line
