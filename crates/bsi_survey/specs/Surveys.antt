-- What a survey says of a text: its header, and that the candidates of each column have observed just its fields of the
-- records as long as the header, and accept each of them (`Surveys`).
use Rattle.std.specs.Prelude.{◌≡◌, ℕ, ◌+◌, ◌^◌, ◌<◌, ◌≤◌, ◌⊎◌, Bool, true, false, not, List, [], ◌∷◌, ◌++◌, length, get_or, map, count_by, slice_index_or, All, IsSome, IsTrue}
use Rattle.std.specs.List.{filter}
use Rattle.csv.specs.declared.reader.Reader.{Reader}
use Rattle.bsi_rows.specs.Fields.{Field}
use Rattle.bsi_syntax.specs.Bytes.{KnownBytes}
use Rattle.bsi_input.specs.Formats.{good_row}
use Rattle.bsi_logical.specs.HeaderTitles.{titles_of}
use Rattle.bsi_logical.specs.Logical.{Logical}
use Rattle.bsi_logical.specs.LogicalRows.{has_titles, logical_format}
use Rattle.bsi_inference.specs.ColumnCandidates.{LooksFor as LooksForKinds}
use Rattle.bsi_inference.specs.Nulls.{usual_words}
use Rattle.bsi_inference.specs.declared.candidates.Candidates.{Candidates}
use Rattle.bsi_survey.specs.Choices.{chosen_fields, chosen_indexes, is_whole, wanted_titles}
use Rattle.bsi_survey.specs.Looking.{AcceptsRecord, AreLookedFor, AreNewBy, AreSteps, HasObservedFields}
use Rattle.bsi_survey.specs.TextRecords.{AreLeft, AreTextRecords}
use Rattle.bsi_survey.specs.declared.options.ColumnStart.{ColumnStart}
use Rattle.bsi_survey.specs.declared.choice.Choice.{Choice}
use Rattle.bsi_survey.specs.declared.counts.Counts.{Counts}
use Rattle.bsi_survey.specs.declared.options.SurveyOptions.{SurveyOptions}
use Rattle.bsi_survey.specs.declared.survey.Survey.{Survey}

-- The fields of column c in the records that are as long as the header.
abbrev pub column_fields : Choice → ℕ → List (List Field) → List Field
column_fields choice c records = map (λ fields. get_or (chosen_fields choice fields) c []) (filter (is_whole choice) records)

-- The fields of the columns are accepted in each record that is as long as the header.
abbrev pub AcceptsWhole : Choice → List Candidates → List (List Field) → Type 0
AcceptsWhole choice columns records =
    All (λ fields. IsTrue (is_whole choice fields) → AcceptsRecord columns (chosen_fields choice fields)) records

-- The counts after a record that is as long as the header, or is not.
abbrev pub counted : Counts → Bool → Counts
counted counts true = record counts { good = counts.good + 1 }
counted counts false = record counts { bad = counts.bad + 1 }

-- Records were counted.
pub record AreCounted (choice : Choice) (records : List (List Field)) (before after : Counts) : Type 0 where
  -- Those that are as long as the header.
  pub good : after.good ≡ before.good + count_by (is_whole choice) records
  -- The others.
  pub bad : after.bad ≡ before.bad + count_by (λ fields. not (is_whole choice fields)) records

-- The columns have observed their fields of a record, if it is as long as the header.
pub record HaveObserved (choice : Choice) (words fields : List Field) (old new : List Candidates) (answer : Bool) : Type 0 where
  pub whole : answer ≡ is_whole choice fields
  pub steps : answer ≡ true → AreSteps words (chosen_fields choice fields) old new
  pub same : answer ≡ false → new ≡ old

-- The columns have observed their fields of the records that are as long as the header, one after another, and no others.
pub record HaveObservedEach (choice : Choice) (words : List Field) (records : List (List Field)) (old new : List Candidates) : Type 0 where
  pub len : length new ≡ length old
  pub each : (c : ℕ) → (d : Candidates) → c < length old →
      HasObservedFields words (column_fields choice c records) (slice_index_or old c d) (slice_index_or new c d)

-- The columns have observed all records that a reader had left.
pub record HaveObservedAll {R : Type 0} (rem : R → KnownBytes) (choice : Choice) (words : List Field) (input : Reader R)
    (old new : List Candidates) (before after : Counts) : Type 0 where
  -- The records that were left.
  pub records : List (List Field)
  pub left : AreLeft rem input records
  -- The columns have observed just these.
  pub observed : HaveObservedEach choice words records old new
  -- Each whole record is accepted.
  pub accepted : AcceptsWhole choice new records
  pub counts : AreCounted choice records before after

-- The fields of the header.
abbrev pub header_of : Survey → List Field
header_of survey = map (λ field. field.items) survey.header.items

-- No record was counted.
abbrev pub no_counts : Counts
no_counts = record { good = 0; bad = 0 }

-- 64 bits do not hold the counts of two texts.
abbrev pub PassCounts : Counts → Counts → Type 0
PassCounts counts other = (2 ^ 64 ≤ counts.good + other.good) ⊎ (2 ^ 64 ≤ counts.bad + other.bad)

-- The null words: the usual ones, and those that are said.
abbrev pub null_words : SurveyOptions → List Field
null_words options = usual_words ++ map (λ word. word.items) options.nulls.items

-- What a survey says of a text.
pub record Surveys (options : SurveyOptions) (bytes : List ℕ) (survey : Survey) : Type 0 where
  -- The records after the header.
  pub records : List (List Field)
  -- The text has the header, then these records, and no others.
  pub all : AreTextRecords options.dialect.delimiter bytes (header_of survey ∷ records)
  -- The columns are those of the titles that were said, or all.
  pub chosen : survey.choice.indexes.items ≡ chosen_indexes (wanted_titles options.columns) 0 (titles_of (header_of survey))
  -- The columns before any field.
  pub first : List Candidates
  pub begun : AreNewBy options.dialect.point options.order options.starts.items first
  -- The columns have observed the records as long as the header, and no others.
  pub observed : HaveObservedEach survey.choice (null_words options) records first survey.columns.items
  -- The fields of the columns are accepted in each record as long as the header.
  pub accepted : AcceptsWhole survey.choice survey.columns.items records
  -- The records as long as the header, and the others.
  pub counts : AreCounted survey.choice records no_counts survey.counts

-- A text with the header of a survey, whose columns accept each record of the text that is as long as the header.
pub record SeesText (survey : Survey) (bytes : List ℕ) : Type 0 where
  -- The records after the header.
  pub records : List (List Field)
  pub all : AreTextRecords survey.dialect.delimiter bytes (header_of survey ∷ records)
  pub accepted : AcceptsWhole survey.choice survey.columns.items records

-- A text with a header of a schema of kinds, of which each record as long as the header is a row.
pub record FitsText (l : Logical) (bytes : List ℕ) : Type 0 where
  -- The fields of the header.
  pub header : List Field
  -- The records after the header.
  pub records : List (List Field)
  pub all : AreTextRecords l.dialect.delimiter bytes (header ∷ records)
  pub header_is : IsTrue (has_titles l header)
  pub rows : All (λ fields. length fields ≡ length header → IsSome (good_row (logical_format l) header fields)) records

-- The columns of a survey look for each kind, by the decimal point of its dialect, or for texts alone.
pub record LooksFor (survey : Survey) : Type 0 where
  -- What is said of each column.
  pub starts : List ColumnStart
  pub each : AreLookedFor survey.dialect.point starts survey.columns.items

-- The columns of two surveys look for each kind, by one decimal point.
pub record LookAlike (survey other : Survey) : Type 0 where
  pub point : ℕ
  pub first : All (LooksForKinds point) survey.columns.items
  pub second : All (LooksForKinds point) other.columns.items
