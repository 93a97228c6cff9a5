-- The faults of a run: at which step each can be raised, and which one a fault of a text or of the schema file becomes.
use Rattle.std.specs.Prelude.{Bool, true, false}
use Rattle.bsi_answers.specs.declared.faults.FilesFault.{FilesFault}
use Rattle.bsi_answers.specs.declared.faults.FilesFault.TheVariants.{BadSchema, IndexFull, NoColumns, Read, Source, TooLong, NoMemory, Write}
use Rattle.bsi_answers.specs.declared.faults.Which.{Which}
use Rattle.bsi_answers.specs.declared.faults.Which.TheVariants.{AsksFile, SchemaFile}
use Rattle.bsi_input.specs.declared.rows.SourceFault.{SourceFault}
use Rattle.bsi_input.specs.declared.rows.SourceFault.TheVariants as source
use Rattle.bsi_input.specs.declared.schema_text.SchemaFault.{SchemaFault}
use Rattle.bsi_input.specs.declared.schema_text.SchemaFault.TheVariants as schema

-- A fault that can be raised while rows are loaded, and that no row source raises.
abbrev pub raised_while_loading : FilesFault → Bool
raised_while_loading IndexFull = true
raised_while_loading NoMemory = true
raised_while_loading fault = false

-- A fault that can be raised while the headers of the row files are read.
abbrev pub raised_at_headers : FilesFault → Bool
raised_at_headers (Source number fault) = true
raised_at_headers NoMemory = true
raised_at_headers fault = false

-- A fault that can be raised after some lines were written.
abbrev pub may_follow_output : FilesFault → Bool
may_follow_output (Read AsksFile) = true
may_follow_output (TooLong AsksFile) = true
may_follow_output NoMemory = true
may_follow_output Write = true
may_follow_output fault = false

-- The fault of a run for a text that was not read to its end.
abbrev pub text_fault : Which → SourceFault → FilesFault
text_fault which source.TooLong = TooLong which
text_fault which source.NoMemory = NoMemory
text_fault which fault = Read which

-- The fault of a run for a schema file that declares no schema.
abbrev pub schema_fault : SchemaFault → FilesFault
schema_fault (schema.BadRecord number) = BadSchema number
schema_fault schema.NoColumns = NoColumns
schema_fault (schema.Source fault) = text_fault SchemaFile fault
