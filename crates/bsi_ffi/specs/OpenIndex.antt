-- An index with its schema as text, and its text of kinds.
use Rattle.std.specs.Prelude.{◌≤◌, Option, length}
use Rattle.bsi_input.specs.SchemaTexts.{IsSchemaText}
use Rattle.bsi_logical.specs.Logical.{Logical}
use Rattle.bsi_rows.specs.Table.{Table}
use Rattle.bsi_storage.specs.Saved.{max_kinds}
use Rattle.bsi_syntax.specs.Bytes.{Bytes}
use Rattle.bsi_ffi.specs.Kinds.{SaysKinds}

-- An index, the text that declared its columns and its limit, and what its numbers stand for.
pub record OpenIndex : Type 0 where
  pub text : Bytes
  pub table : Table
  -- The text of kinds; no bytes if the numbers are whole numbers.
  pub kinds : Bytes
  -- What the text of kinds says.
  pub logical : Option Logical

-- An index whose texts speak of its columns.
pub record IsOpenIndex (opened : OpenIndex) : Type 0 where
  pub declared : IsSchemaText opened.text opened.table.schema opened.table.limit
  pub says : SaysKinds opened.kinds opened.table.schema opened.logical
  pub few : length opened.kinds ≤ max_kinds
