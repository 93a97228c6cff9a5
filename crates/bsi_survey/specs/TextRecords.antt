-- The records of a text whose fields have a given byte between them, and what a reader of such a text has left.
use Rattle.std.specs.Prelude.{◌≡◌, ◌⊎◌, ℕ, List, [], None, IfSome, IsTrue, MatchOption}
use Rattle.csv.specs.Machine.{next_record}
use Rattle.csv.specs.Reading.{AreRecords, Ready, Reached, is_flexible, is_io, reader_config, reader_state, reader_trim, source_of, strip_bom}
use Rattle.csv.specs.declared.error.ErrorKind.{ErrorKind}
use Rattle.csv.specs.declared.error.ErrorKind.TheVariants as error
use Rattle.csv.specs.declared.parser.State.TheVariants as st
use Rattle.csv.specs.declared.reader.Reader.{Reader}
use Rattle.csv.specs.declared.reader.Trim.TheVariants as trim
use Rattle.bsi_syntax.specs.Bytes.{KnownBytes}
use Rattle.bsi_rows.specs.Fields.{Field}
use Rattle.bsi_input.specs.Formats.{config_of}

-- All records of a text, after any byte order mark.
abbrev pub AreTextRecords : ℕ → List ℕ → List (List Field) → Type 0
AreTextRecords delimiter bytes records = AreRecords (config_of delimiter) st.StartRecord (strip_bom bytes) records

-- A reader of records: it trims nothing, and records may have any number of fields.
pub record IsRecordReader {R : Type 0} (input : Reader R) : Type 0 where
  -- No field is trimmed.
  pub trims : reader_trim input ≡ trim.None
  -- The first record is a record as the others.
  pub ready : Ready input
  -- Records may have any number of fields.
  pub flexible : IsTrue (is_flexible input)

-- Why such a reader gives no record: its own reader failed, or memory was refused.
abbrev pub IsReadFault : ErrorKind → Type 0
IsReadFault kind = IsTrue (is_io kind) ⊎ (kind ≡ error.OutOfMemory)

-- A reader has read records, as far as its bytes are known.
abbrev pub HasRead : {R : Type 0} → (R → KnownBytes) → Reader R → Reader R → List (List Field) → Type 0
HasRead rem old new records =
    IfSome (source_of rem old) (λ bytes. MatchOption (source_of rem new) ⊥
    (λ rest. Reached (reader_config old) (reader_state old) bytes records (reader_state new) rest))

-- All records that a reader has left, as far as its bytes are known.
abbrev pub AreLeft : {R : Type 0} → (R → KnownBytes) → Reader R → List (List Field) → Type 0
AreLeft rem input records =
    IfSome (source_of rem input) (λ rest. AreRecords (reader_config input) (reader_state input) rest records)

-- A reader has no record left, as far as its bytes are known.
abbrev pub IsOver : {R : Type 0} → (R → KnownBytes) → Reader R → Type 0
IsOver rem input =
    IfSome (source_of rem input) (λ rest. next_record (reader_config input) (reader_state input) [] [] rest ≡ None)
