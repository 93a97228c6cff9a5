-- Which rows and how many bad records the bytes of a row file have (`IsRowFile`), and how a run counts them
-- (`FedCounts`).
use Rattle.std.specs.Prelude.{◌≡◌, ◌≤◌, ℕ, true, List, [], ◌∷◌, length, slice_index_or}
use Rattle.bsi_syntax.specs.Bytes.{Bytes}
use Rattle.bsi_rows.specs.Fields.{Field}
use Rattle.bsi_rows.specs.Rows.{Entries}
use Rattle.bsi_input.specs.Formats.{bad_count, good_rows, Format}
use Rattle.bsi_input.specs.Texts.{AreRecordsBy}
use Rattle.bsi_answers.specs.declared.fed.Fed.{Fed}

-- A row file: the rows of its good records, in order, and the number of bad records.
pub record RowFile : Type 0 where
  pub rows : List Entries
  pub bad : ℕ

-- The rows and the number of bad records of a row file of a format, by the bytes of the file.
pub record IsRowFile (format : Format) (bytes : Bytes) (file : RowFile) : Type 0 where
  -- The fields of the header.
  pub header : List Field
  -- The records after the header.
  pub records : List (List Field)
  -- The bytes have the header, then these records, and no others.
  pub all : AreRecordsBy format.config bytes (header ∷ records)
  -- No more records follow the header than the format has at most.
  pub few : length records ≤ format.most
  -- The header is one of the format.
  pub header_is : format.is_header header ≡ true
  -- The rows are those of the good records.
  pub rows_are : file.rows ≡ good_rows format header records
  -- The count is that of the bad records.
  pub bad_is : file.bad ≡ bad_count format header records

abbrev pub file_rows : RowFile → List Entries
file_rows file = file.rows

-- The number of rows of a feeder that were accepted, and of its bad records.
pub record FedCounts : Type 0 where
  pub accepted : ℕ
  pub bad : ℕ

abbrev pub fed_counts : Fed → FedCounts
fed_counts fed = record { accepted = fed.accepted; bad = fed.bad }

-- The counts of a row file whose good rows were all accepted.
abbrev pub file_counts : RowFile → FedCounts
file_counts file = record { accepted = length file.rows; bad = file.bad }

abbrev pub no_file : RowFile
no_file = record { rows = []; bad = 0 }

abbrev pub file_at : List RowFile → ℕ → RowFile
file_at files f = slice_index_or files f no_file
