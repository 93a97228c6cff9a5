-- The reasons that a check writes, a line each.
use Rattle.std.specs.Prelude.{◌≡◌, ◌≢◌, ℕ, ◌<◌, ◌-◌, Bool, true, false, if◌then◌else◌, ◌||◌, nat_eq, nat_le, All, List, [], ◌∷◌, ◌++◌, length, map, Option, None, Some, IfSome, codes, decimal}
use Rattle.std.specs.List.{concat}
use Rattle.bsi_rows.specs.Fields.{Field}
use Rattle.bsi_syntax.specs.Bytes.{KnownBytes}
use Rattle.bsi_input.specs.FaultTexts.{source_fault_text}
use Rattle.bsi_input.specs.Formats.{Format}
use Rattle.bsi_input.specs.declared.rows.SourceFault.{SourceFault}
use Rattle.bsi_input.specs.declared.rows.SourceFault.TheVariants as source
use Rattle.bsi_logical.specs.SchemaFiles.{DeclaresSchema, IsSchemaFileFault}
use Rattle.bsi_logical.specs.declared.logical_text.LogicalFault.{LogicalFault}
use Rattle.bsi_logical.specs.declared.logical_text.LogicalFault.TheVariants.{BadRecord, NoColumns, Source}
use Rattle.bsi_logical.specs.declared.schema_file.DeclaredSchema.{DeclaredSchema}
use Rattle.bsi_check.specs.Judges.{IsReason, Judge}
use Rattle.bsi_check.specs.declared.finding.AsksFinding.{AsksFinding}
use Rattle.bsi_check.specs.declared.finding.AsksFinding.TheVariants as asks
use Rattle.bsi_check.specs.declared.finding.FileFinding.{FileFinding}
use Rattle.bsi_check.specs.declared.finding.FileFinding.TheVariants.{Counted, NoHeader, Unread}

-- A line feed or a carriage return.
abbrev pub is_line_end : ℕ → Bool
is_line_end byte = nat_eq byte 10 || nat_eq byte 13

-- A text without line ends.
abbrev pub IsOneLine : List ℕ → Type 0
IsOneLine text = All (λ byte. is_line_end byte ≡ false) text

-- A text on one line, with a space for each line end.
abbrev pub one_line : List ℕ → List ℕ
one_line text = map (λ byte. if is_line_end byte then 32 else byte) text

-- The line of a reason: the path of the file, a colon, and what is wrong.
abbrev pub reason_line : List ℕ → List ℕ → List ℕ
reason_line path why = path ++ codes ":" ++ why ++ codes "\n"

-- What is wrong with a record, behind the line at which it begins.
abbrev pub line_why : ℕ → List ℕ → List ℕ
line_why line text = decimal line ++ (codes ": " ++ text)

-- The reasons `whys` of one file, a line each, were appended to a text.
abbrev pub AddsReasons : List ℕ → List (List ℕ) → List ℕ → List ℕ → Type 0
AddsReasons path whys before after = All IsOneLine whys × (after ≡ before ++ concat (map (reason_line path) whys))

-- One reason was appended.
abbrev pub AddsOneReason : List ℕ → List ℕ → List ℕ → Type 0
AddsOneReason path before after = (why : List ℕ) × AddsReasons path (why ∷ []) before after

-- Any number of reasons were appended.
abbrev pub AddsSomeReasons : List ℕ → List ℕ → List ℕ → Type 0
AddsSomeReasons path before after = (whys : List (List ℕ)) × AddsReasons path whys before after

-- One reason was appended if the condition is false, and none if it is true.
abbrev pub AddsOneReasonUnless : Bool → List ℕ → List ℕ → List ℕ → Type 0
AddsOneReasonUnless true path before after = after ≡ before
AddsOneReasonUnless false path before after = AddsOneReason path before after

-- ---- bad records

-- The most bad records of a file for which reasons are written.
abbrev pub max_reasons : ℕ
max_reasons = 100

-- How many reasons are written for so many bad records: one each, for at most 100 of them.
abbrev pub reason_count : ℕ → ℕ
reason_count bad = if nat_le bad max_reasons then bad else max_reasons

-- As many reasons were appended as there are bad records, but at most 100.
abbrev pub AddsFirstReasons : List ℕ → ℕ → List ℕ → List ℕ → Type 0
AddsFirstReasons path bad before after = (whys : List (List ℕ)) × (length whys ≡ reason_count bad) × AddsReasons path whys before after

-- The text that counts the bad records beyond the first 100.
abbrev pub more_why : ℕ → List ℕ
more_why more = codes " and " ++ decimal more ++ codes " more bad records"

-- That text, if there are more than 100 bad records.
abbrev pub more_whys : ℕ → List (List ℕ)
more_whys bad = if nat_le bad max_reasons then [] else more_why (bad - max_reasons) ∷ []

-- As many reasons were appended as there are bad records, but at most 100, and the count of any others.
abbrev pub AddsBadRecordReasons : List ℕ → ℕ → List ℕ → List ℕ → Type 0
AddsBadRecordReasons path bad before after =
    (whys : List (List ℕ)) × (length whys ≡ reason_count bad) × AddsReasons path (whys ++ more_whys bad) before after

-- One reason was appended, of a record of a row file: it tells the line, and why the record is bad.
pub record AddsRecordReason (format : Format) (judge : Judge) (header fields : List Field) (path before after : List ℕ)
    : Type 0 where
  -- The line.
  pub line : ℕ
  -- Why the record is bad.
  pub text : List ℕ
  pub tells : IsReason format judge header fields text
  pub added : AddsReasons path (one_line (line_why line text) ∷ []) before after

-- ---- the reasons of a file

-- What is wrong with a file that was not read to its end.
abbrev pub fault_why : SourceFault → List ℕ
fault_why fault = codes " " ++ source_fault_text fault

-- The reasons of a file that was not read to its end were appended, of which the last is the fault.
abbrev pub AddsUnreadReason : List ℕ → SourceFault → List ℕ → List ℕ → Type 0
AddsUnreadReason path fault before after =
    (fault ≢ source.NoMemory) × (whys : List (List ℕ)) × AddsReasons path (whys ++ fault_why fault ∷ []) before after

-- The reasons of a row file with this finding were appended.
abbrev pub AddsFileReasons : List ℕ → FileFinding → List ℕ → List ℕ → Type 0
AddsFileReasons path (Counted counts) before after = AddsBadRecordReasons path counts.bad before after
AddsFileReasons path NoHeader before after = AddsOneReason path before after
AddsFileReasons path (Unread fault) before after = AddsUnreadReason path fault before after

-- The reasons of asks with this finding were appended.
abbrev pub AddsAsksReasons : List ℕ → AsksFinding → List ℕ → List ℕ → Type 0
AddsAsksReasons path (asks.Counted bad) before after = AddsBadRecordReasons path bad before after
AddsAsksReasons path (asks.Unread fault) before after = AddsUnreadReason path fault before after

-- The reason of a schema file with this fault, which declares no schema, was appended.
abbrev pub AddsSchemaReason : List ℕ → LogicalFault → List ℕ → List ℕ → Type 0
AddsSchemaReason path (BadRecord number why) before after = AddsOneReason path before after
AddsSchemaReason path NoColumns before after = AddsReasons path (codes " declares no column" ∷ []) before after
AddsSchemaReason path (Source fault) before after =
    (fault ≢ source.NoMemory) × AddsReasons path (fault_why fault ∷ []) before after

-- The check of a schema file: the schema that it declares and no reason, or none and the reasons.
-- `known` are the bytes of the file, if they are known.
abbrev pub IsSchemaChecked : List ℕ → KnownBytes → Option DeclaredSchema → List ℕ → List ℕ → Type 0
IsSchemaChecked path known (Some file) before after =
    IfSome known (λ text. DeclaresSchema text file.schema file.limit) × (after ≡ before)
IsSchemaChecked path known None before after =
    (fault : LogicalFault) × IfSome known (λ text. IsSchemaFileFault text fault) × AddsSchemaReason path fault before after

-- ---- all of them

-- Reasons were appended exactly if the condition is false.
abbrev pub AddsReasonsUnless : Bool → List ℕ → List ℕ → Type 0
AddsReasonsUnless true before after = after ≡ before
AddsReasonsUnless false before after = length before < length after
