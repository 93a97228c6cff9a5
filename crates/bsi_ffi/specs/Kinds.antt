-- What the text of kinds of an index says of its columns (`SaysKinds`), and when it is refused.
use Rattle.std.specs.Prelude.{◌≡◌, ◌⊎◌, ◌<◌, [], length, Option, None, Some}
use Rattle.bsi_logical.specs.Logical.{Logical}
use Rattle.bsi_logical.specs.LogicalTexts.{IsLogicalText}
use Rattle.bsi_logical.specs.declared.logical_text.LogicalFault.{LogicalFault}
use Rattle.bsi_logical.specs.declared.logical_text.LogicalFault.TheVariants.{Source}
use Rattle.bsi_input.specs.declared.rows.SourceFault.TheVariants as source
use Rattle.bsi_schema.specs.Columns.{Declared}
use Rattle.bsi_storage.specs.Saved.{max_kinds}
use Rattle.bsi_syntax.specs.Bytes.{Bytes}
use Rattle.bsi_ffi.specs.declared.refusal.Refusal.{Refusal}
use Rattle.bsi_ffi.specs.declared.refusal.Refusal.TheVariants.{BadKinds, NoMemory}

-- The text of kinds says the logical schema, whose columns are these. An empty text says none: the numbers are whole
-- numbers.
abbrev pub SaysKinds : Bytes → Declared → Option Logical → Type 0
SaysKinds kinds schema None = kinds ≡ []
SaysKinds kinds schema (Some logical) = IsLogicalText kinds logical × (logical.schema ≡ schema)

-- The text says nothing of these columns, or is longer than one of a file.
abbrev pub AreBadKinds : Bytes → Declared → Type 0
AreBadKinds kinds schema = ((said : Option Logical) → SaysKinds kinds schema said → ⊥) ⊎ (max_kinds < length kinds)

-- The text of kinds is refused for these columns.
abbrev pub IsKindsRefusal : Bytes → Declared → Refusal → Type 0
IsKindsRefusal kinds schema BadKinds = AreBadKinds kinds schema
IsKindsRefusal kinds schema NoMemory = Unit {0}
IsKindsRefusal kinds schema why = ⊥

-- The refusal of a text that was not read as a logical schema.
abbrev pub fault_refusal : LogicalFault → Refusal
fault_refusal (Source source.NoMemory) = NoMemory
fault_refusal (Source source.Read) = NoMemory
fault_refusal fault = BadKinds
