-- What a check of all files of a run writes (`HasReported`), or has begun to write: its reasons, and then the line
-- `fed` of each row file, which counts its good and its bad records.
use Rattle.std.specs.Io.KnownBytes.{Appends}
use Rattle.std.specs.Prelude.{◌≡◌, ◌⊎◌, ℕ, suc, ◌-◌, ◌<◌, Bool, ◌&&◌, nat_eq, nat_le, List, [], ◌∷◌, ◌++◌, length, map, sum, Option, None, Some, IfSome, codes}
use Rattle.std.specs.List.{list_all}
use Rattle.bsi_syntax.specs.Bytes.{KnownBytes}
use Rattle.bsi_syntax.specs.Lines.{fed_line}
use Rattle.bsi_input.specs.Formats.{Format}
use Rattle.bsi_input.specs.BufferedOutput.{AppendsPrefix}
use Rattle.bsi_rows.specs.Table.{max_feeders}
use Rattle.bsi_logical.specs.SchemaFiles.{DeclaresSchema}
use Rattle.bsi_logical.specs.TableSchemas.{format_of}
use Rattle.bsi_logical.specs.declared.schema_file.DeclaredSchema.{DeclaredSchema}
use Rattle.bsi_logical.specs.declared.table_schema.TableSchema.{TableSchema}
use Rattle.bsi_check.specs.Checks.{has_good_asks, is_clean, HasAtMost, IsAsksFinding, IsFileFinding}
use Rattle.bsi_check.specs.Reasons.{AddsAsksReasons, AddsFileReasons, AddsOneReasonUnless, AddsReasons, AddsReasonsUnless, IsSchemaChecked}
use Rattle.bsi_check.specs.declared.named.NamedFile.{NamedFile}
use Rattle.bsi_check.specs.declared.finding.AsksFinding.{AsksFinding}
use Rattle.bsi_check.specs.declared.finding.AsksFinding.TheVariants as asks
use Rattle.bsi_check.specs.declared.finding.FileFinding.{FileFinding}
use Rattle.bsi_check.specs.declared.finding.FileFinding.TheVariants.{Counted}

-- `Adds` relates each pair at the same index. Each pair appends to a text, one after the other.
abbrev pub AreAdded : {A B : Type 0} → (A → B → List ℕ → List ℕ → Type 0) → List A → List B → List ℕ → List ℕ → Type 0
AreAdded Adds [] [] before after = after ≡ before
AreAdded Adds (x ∷ xs) (y ∷ ys) before after =
    (middle : List ℕ) × Adds x y before middle × AreAdded Adds xs ys middle after
AreAdded Adds xs ys before after = ⊥

-- The number of good records of a row file.
abbrev pub good_count : FileFinding → ℕ
good_count (Counted counts) = counts.records - counts.bad
good_count file = 0

-- The line `fed` of row file n, as a run writes it, or nothing if the file was not read to its end.
abbrev pub line_of : ℕ → FileFinding → List ℕ
line_of n (Counted counts) = fed_line n (counts.records - counts.bad) counts.bad
line_of n file = []

-- The lines `fed` of files, of which the first has number n.
abbrev pub fed_text : ℕ → List FileFinding → List ℕ
fed_text n [] = []
fed_text n (file ∷ files) = line_of n file ++ fed_text (suc n) files

-- All row files and asks are good: read to their end, without bad records, and with no more rows than the limit.
abbrev pub are_good : ℕ → List FileFinding → AsksFinding → Bool
are_good limit files asks = list_all is_clean files && (nat_le (sum (map good_count files)) limit && has_good_asks asks)

-- There are too many row files. That is the only reason, and there are no lines `fed`.
pub record HasTooManyFiles {S : Type 0} (rows : List (NamedFile S)) (reasons fed : List ℕ) : Type 0 where
  pub many : max_feeders < length rows
  pub why : AddsReasons (codes "bsi") (codes " more than 64 files" ∷ []) [] reasons
  pub none : fed ≡ []

-- Files to be checked are open under their paths. `rem` gives the bytes of each, if they are known.
module _ {S : Type 0} (rem : S → KnownBytes) where
  -- A row file has this finding, no more records were counted than the format has at most, and its reasons were
  -- appended.
  abbrev pub IsFileChecked : Format → NamedFile S → FileFinding → List ℕ → List ℕ → Type 0
  IsFileChecked format file finding before after =
      IfSome (rem file.reader) (IsFileFinding format finding) × HasAtMost format.most finding
      × AddsFileReasons file.path.now finding before after

  -- The asks have this finding, and their reasons were appended. Without asks, none is bad.
  abbrev pub AreAsksChecked : TableSchema → Option (NamedFile S) → AsksFinding → List ℕ → List ℕ → Type 0
  AreAsksChecked schema None finding before after = (finding ≡ asks.Counted 0) × (after ≡ before)
  AreAsksChecked schema (Some file) finding before after =
      IfSome (rem file.reader) (IsAsksFinding schema finding) × AddsAsksReasons file.path.now finding before after

  -- A check of files whose schema can be read.
  pub record IsJudged (schema : NamedFile S) (rows : List (NamedFile S)) (asked : Option (NamedFile S))
      (reasons fed : List ℕ) : Type 0 where
    -- The schema and the limit that the schema file declares.
    pub table : DeclaredSchema
    -- The finding on each row file.
    pub files : List FileFinding
    -- The finding on the asks.
    pub asks : AsksFinding
    -- The reasons of the row files.
    pub of_files : List ℕ
    -- The reasons of the row files and of the limit.
    pub of_limit : List ℕ
    -- The text of the schema file, if known, declares the schema and the limit.
    pub schema_is : IfSome (rem schema.reader) (λ text. DeclaresSchema text table.schema table.limit)
    -- Each row file has its finding, and the reasons of the row files are appended in order.
    pub files_are : AreAdded (IsFileChecked (format_of table.schema)) rows files [] of_files
    -- Good rows beyond the limit are a reason of the schema file.
    pub limit_is : AddsOneReasonUnless (nat_le (sum (map good_count files)) table.limit) schema.path.now of_files of_limit
    -- The asks have the finding, and the reasons of the asks come last.
    pub asks_are : AreAsksChecked table.schema asked asks of_limit reasons
    -- There are reasons exactly if a file is not good or the good rows exceed the limit.
    pub reported : AddsReasonsUnless (are_good table.limit files asks) [] reasons
    -- The lines `fed` are those of the row files.
    pub fed_is : fed ≡ fed_text 0 files

  -- A check that stops early: there are too many row files, or the schema file declares no schema.
  -- That is the only reason, and there are no lines `fed`.
  pub record IsRefused (schema : NamedFile S) (rows : List (NamedFile S)) (reasons fed : List ℕ) : Type 0 where
    pub why : ((max_feeders < length rows) × AddsReasons (codes "bsi") (codes " more than 64 files" ∷ []) [] reasons)
        ⊎ IsSchemaChecked schema.path.now (rem schema.reader) None [] reasons
    pub none : fed ≡ []

  -- The report of a check: its reasons, and the lines `fed`.
  abbrev pub IsReport : NamedFile S → List (NamedFile S) → Option (NamedFile S) → List ℕ → List ℕ → Type 0
  IsReport schema rows asked reasons fed = IsRefused schema rows reasons fed ⊎ IsJudged schema rows asked reasons fed

  -- The report of a check was written.
  pub record HasReported (schema : NamedFile S) (rows : List (NamedFile S)) (asked : Option (NamedFile S))
      (before after : KnownBytes) (good : Bool) : Type 0 where
    -- The text of the reasons.
    pub reasons : List ℕ
    -- The text of the lines `fed`.
    pub fed : List ℕ
    -- The reasons and the lines `fed` are those of a check of the files.
    pub report : IsReport schema rows asked reasons fed
    -- The result says whether there was no reason.
    pub good_is : good ≡ nat_eq (length reasons) 0
    -- The reasons, and after them the lines `fed`, were appended to the output.
    pub written : Appends before after (reasons ++ fed)

  -- The report of a check was written in part.
  pub record HasBegunReport (schema : NamedFile S) (rows : List (NamedFile S)) (asked : Option (NamedFile S))
      (before after : KnownBytes) : Type 0 where
    -- The text of the reasons.
    pub reasons : List ℕ
    -- The text of the lines `fed`.
    pub fed : List ℕ
    -- The reasons and the lines `fed` are those of a check of the files.
    pub report : IsReport schema rows asked reasons fed
    -- A prefix of the reasons and the lines `fed` was appended to the output.
    pub cut : AppendsPrefix before after (reasons ++ fed)

  -- A check of row files by a format, and the limit of a schema file under a path.
  pub record AreJudged (format : Format) (limit : ℕ) (path : List ℕ) (rows : List (NamedFile S)) (reasons fed : List ℕ)
      : Type 0 where
    -- The finding on each row file.
    pub files : List FileFinding
    -- The reasons of the row files.
    pub of_files : List ℕ
    -- Each row file has its finding, and the reasons of the row files are appended in order.
    pub files_are : AreAdded (IsFileChecked format) rows files [] of_files
    -- Good rows beyond the limit are a reason of the schema file.
    pub limit_is : AddsOneReasonUnless (nat_le (sum (map good_count files)) limit) path of_files reasons
    -- There are reasons exactly if a file is not good or the good rows exceed the limit.
    pub reported : AddsReasonsUnless (list_all is_clean files && nat_le (sum (map good_count files)) limit) [] reasons
    -- The lines `fed` are those of the row files.
    pub fed_is : fed ≡ fed_text 0 files

  -- The report of a check of row files. If there are too many, that is the only reason, and there are no lines `fed`.
  abbrev pub IsRowReport : Format → ℕ → List ℕ → List (NamedFile S) → List ℕ → List ℕ → Type 0
  IsRowReport format limit path rows reasons fed = HasTooManyFiles rows reasons fed ⊎ AreJudged format limit path rows reasons fed

-- Reasons and lines `fed` were appended to an output. The result says whether there is no reason.
pub record IsWritten (before after : KnownBytes) (reasons fed : List ℕ) (good : Bool) : Type 0 where
  pub good_is : good ≡ nat_eq (length reasons) 0
  pub written : Appends before after (reasons ++ fed)

-- A text and lines `fed` were written, of which `Is` says what they are. The result says whether the text is empty.
pub record HasWritten (Is : List ℕ → List ℕ → Type 0) (before after : KnownBytes) (good : Bool) : Type 0 where
  pub reasons : List ℕ
  pub fed : List ℕ
  pub report : Is reasons fed
  pub good_is : good ≡ nat_eq (length reasons) 0
  pub written : Appends before after (reasons ++ fed)

-- A prefix of them was written.
pub record HasBegunWriting (Is : List ℕ → List ℕ → Type 0) (before after : KnownBytes) : Type 0 where
  pub reasons : List ℕ
  pub fed : List ℕ
  pub report : Is reasons fed
  pub cut : AppendsPrefix before after (reasons ++ fed)
