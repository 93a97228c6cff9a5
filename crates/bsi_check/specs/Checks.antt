-- What a check finds in the row files (`IsFileFinding`) and in the asks (`IsAsksFinding`) of a run.
use Rattle.std.specs.Prelude.{◌≡◌, ⊤, ◌⊎◌, ℕ, ◌+◌, ◌≤◌, Bool, true, false, nat_eq, List, [], ◌∷◌, length, IsSome}
use Rattle.csv.specs.Machine.{next_record}
use Rattle.csv.specs.Reading.{strip_bom}
use Rattle.csv.specs.declared.parser.Config.{Config}
use Rattle.csv.specs.declared.parser.State.{State}
use Rattle.csv.specs.declared.reader.Reader.{Reader}
use Rattle.bsi_syntax.specs.Bytes.{Bytes, KnownBytes}
use Rattle.bsi_syntax.specs.Events.{IsQuery}
use Rattle.bsi_rows.specs.Fields.{Field}
use Rattle.bsi_rows.specs.Rows.{Entries}
use Rattle.bsi_rows.specs.declared.query.Query.{Query}
use Rattle.bsi_rows.specs.declared.question.Question.{Question}
use Rattle.bsi_syntax.specs.Questions.{IsQuestion}
use Rattle.bsi_syntax.specs.declared.grammar.Grammar.TheVariants.{Index}
use Rattle.bsi_logical.specs.Meanings.{logical_vocabulary}
use Rattle.bsi_logical.specs.declared.table_schema.TableSchema.{TableSchema}
use Rattle.bsi_logical.specs.declared.table_schema.TableSchema.TheVariants.{Logical, Plain}
use Rattle.bsi_input.specs.Formats.{max_records, Format}
use Rattle.bsi_input.specs.Sources.{counts_of, HasNextBy, HasNoHeader, HasReadBy, HasReadRows, IsOverBy, IsWholeFile, Layout}
use Rattle.bsi_input.specs.Texts.{AreAllRecords, AreFirstRecords, AreFirstRecordsBy, AreTooMany}
use Rattle.bsi_input.specs.declared.rows.SourceFault.TheVariants as source
use Rattle.bsi_check.specs.declared.finding.AsksFinding.{AsksFinding}
use Rattle.bsi_check.specs.declared.finding.AsksFinding.TheVariants as asks
use Rattle.bsi_check.specs.declared.finding.FileCounts.{FileCounts}
use Rattle.bsi_check.specs.declared.finding.FileFinding.{FileFinding}
use Rattle.bsi_check.specs.declared.finding.FileFinding.TheVariants.{Counted, NoHeader, Unread}

-- ---- a row file

abbrev pub layout_of : Format → List Field → Layout
layout_of format header = record { format = format; header = header }

-- The records that a reader had left were counted.
pub record HasCounted {R : Type 0} (rem : R → KnownBytes) (layout : Layout) (input : Reader R)
    (counts : FileCounts) : Type 0 where
  -- The reader after the last record.
  pub at : Reader R
  -- The rows of the good records.
  pub rows : List Entries
  -- Up to `at`, all records and the bad ones were counted, and the good ones have the rows.
  pub read_so_far : HasReadRows rem layout input at (counts_of 0 0) (counts_of counts.records counts.bad) rows
  -- No record is left.
  pub over : IsOverBy layout.format.config rem at
  -- The records are no more than the format has at most.
  pub few : counts.records ≤ layout.format.most

-- More records than the format has at most can be read from the input.
pub record HasMoreRecords {R : Type 0} (rem : R → KnownBytes) (format : Format) (input : Reader R) : Type 0 where
  -- The reader after the first of the records.
  pub at : Reader R
  -- The first of the records.
  pub records : List (List Field)
  -- These records were read from the input, up to `at`.
  pub read : HasReadBy format.config rem input at records
  -- They are as many as the format has at most.
  pub many : length records ≡ format.most
  -- One more record follows.
  pub more : HasNextBy format.config rem at

-- The text is a row file of the format, with these counts.
pub record IsCountedFile (format : Format) (counts : FileCounts) (text : Bytes) : Type 0 where
  -- The fields of the header.
  pub header : List Field
  -- The rows of the good records.
  pub rows : List Entries
  -- The format accepts the header.
  pub named : format.is_header header ≡ true
  -- After the header, all records and the bad ones are counted, and the good ones have the rows.
  pub whole : IsWholeFile (layout_of format header) (strip_bom text) (counts_of 0 0)
      (counts_of counts.records counts.bad) rows

-- There are `most` records, which are written so, and the text has one more.
abbrev pub AreMoreThan : Config → ℕ → List (List Field) → State → List ℕ → Type 0
AreMoreThan config most records state rest =
    (length records ≡ most) × IsSome (next_record config state [] [] rest)

-- The text is a row file of the format that is too long.
pub record IsTooLongRowFile (format : Format) (text : Bytes) : Type 0 where
  -- The fields of the header.
  pub header : List Field
  -- The first records after the header.
  pub records : List (List Field)
  -- The state of the parser after the records.
  pub state : State
  -- The bytes after the records.
  pub rest : List ℕ
  -- The format accepts the header.
  pub named : format.is_header header ≡ true
  -- The text begins with the header and the records, and goes on with the rest.
  pub first : AreFirstRecordsBy format.config text (header ∷ records) state rest
  -- The records are as many as the format has at most, and one more follows.
  pub too_long : AreMoreThan format.config format.most records state rest

-- The finding that a check has for a row file with this text. A fault of the reader says nothing of the text.
abbrev pub IsFileFinding : Format → FileFinding → List ℕ → Type 0
IsFileFinding format (Counted counts) text = IsCountedFile format counts text
IsFileFinding format NoHeader text = HasNoHeader format (strip_bom text)
IsFileFinding format (Unread source.TooLong) text = IsTooLongRowFile format text
IsFileFinding format (Unread source.Read) text = ⊤
IsFileFinding format (Unread fault) text = ⊥

-- The records that were counted, if they were, are at most so many.
abbrev pub HasAtMost : ℕ → FileFinding → Type 0
HasAtMost most (Counted counts) = counts.records ≤ most
HasAtMost most NoHeader = ⊤
HasAtMost most (Unread fault) = ⊤

-- All records of the file are good.
abbrev pub is_clean : FileFinding → Bool
is_clean (Counted counts) = nat_eq counts.bad 0
is_clean NoHeader = false
is_clean (Unread fault) = false

-- ---- the asks

-- The record asks a question: a query over whole numbers, or over kinds any question of an index.
abbrev pub Asks : TableSchema → List Field → Type 0
Asks (Plain schema) fields = (query : Query) × IsQuery schema fields query
Asks (Logical logical) fields = (question : Question) × IsQuestion Index (logical_vocabulary logical) fields question

-- The record asks no question.
abbrev pub AsksNothing : TableSchema → List Field → Type 0
AsksNothing schema fields = Asks schema fields → ⊥

-- The verdict on a record: true if it asks a question, and false if it asks none.
abbrev pub IsAskVerdict : TableSchema → List Field → Bool → Type 0
IsAskVerdict schema fields true = Asks schema fields
IsAskVerdict schema fields false = AsksNothing schema fields

-- `bad` of the records ask no question, and each of the others asks one.
unfoldable pub HaveBadAsks : TableSchema → List (List Field) → ℕ → Type 0
HaveBadAsks schema [] bad = bad ≡ 0
HaveBadAsks schema (fields ∷ records) bad =
    (Asks schema fields × HaveBadAsks schema records bad)
    ⊎ (AsksNothing schema fields × (others : ℕ) × (bad ≡ others + 1) × HaveBadAsks schema records others)

-- The text is an asks file with `bad` bad records.
pub record AreCountedAsks (schema : TableSchema) (bad : ℕ) (text : Bytes) : Type 0 where
  -- The records of the text.
  pub records : List (List Field)
  -- The text has these records and no others.
  pub all : AreAllRecords text records
  -- There are at most 1,000,000 records.
  pub few : length records ≤ max_records
  -- `bad` of the records ask no question, and each of the others asks one.
  pub asked : HaveBadAsks schema records bad

-- The text is an asks file that is too long.
pub record AreTooManyAsks (text : Bytes) : Type 0 where
  -- The first records of the text.
  pub records : List (List Field)
  -- The state of the parser after the records.
  pub state : State
  -- The bytes after the records.
  pub rest : List ℕ
  -- The text begins with the records, and goes on with the rest.
  pub first : AreFirstRecords text records state rest
  -- The records are 1,000,000, and one more follows.
  pub too_long : AreTooMany records state rest

-- The finding that a check has for asks with this text. A fault of the reader says nothing of the text.
abbrev pub IsAsksFinding : TableSchema → AsksFinding → List ℕ → Type 0
IsAsksFinding schema (asks.Counted bad) text = AreCountedAsks schema bad text
IsAsksFinding schema (asks.Unread source.TooLong) text = AreTooManyAsks text
IsAsksFinding schema (asks.Unread source.Read) text = ⊤
IsAsksFinding schema (asks.Unread fault) text = ⊥

-- All asks were read, and none is bad.
abbrev pub has_good_asks : AsksFinding → Bool
has_good_asks (asks.Counted bad) = nat_eq bad 0
has_good_asks (asks.Unread fault) = false
