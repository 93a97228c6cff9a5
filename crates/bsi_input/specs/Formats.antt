-- What turns the records of a row file into rows (`Format`), and which records are good: those that give a row that
-- fits.
use Rattle.std.specs.Prelude.{ℕ, Bool, nat_eq, if◌then◌else◌, List, [], length, map, get_or, count_by, filter_map, Option, Some, None, option_and_then}
use Rattle.std.specs.Option.{is_none}
use Rattle.csv.specs.Reading.{default_config}
use Rattle.csv.specs.declared.parser.Config.{Config}
use Rattle.bsi_schema.specs.Columns.{Declared, fits}
use Rattle.bsi_rows.specs.Rows.{Entries}
use Rattle.bsi_rows.specs.Fields.{Field}

-- The most records of a text. A format may have others for a row file.
abbrev pub max_records : ℕ
max_records = 1000000

-- How records are written whose fields have this byte between them. Double quotes enclose fields.
abbrev pub config_of : ℕ → Config
config_of delimiter = record default_config { delimiter = delimiter }

-- How the records of a row file are read.
pub record Format : Type 0 where
  -- What separates the fields of a record, and what encloses them.
  pub config : Config
  -- The columns, and what each accepts.
  pub schema : Declared
  -- The record is a header.
  pub is_header : List Field → Bool
  -- The index of each column's field, by the header.
  pub indexes : List Field → List ℕ
  -- The entries that the fields of the columns spell, in the order of the columns, or none if some field spells none.
  pub entries : List Field → Option Entries
  -- The most records after the header.
  pub most : ℕ

-- The fields at these indexes.
abbrev pub fields_at : List ℕ → List Field → List Field
fields_at indexes fields = map (λ index. get_or fields index []) indexes

-- The fields of a record in the order of the columns, by the header.
abbrev pub in_order : Format → List Field → List Field → List Field
in_order format header fields = fields_at (format.indexes header) fields

-- A row, if it fits the schema.
abbrev pub fitting : Declared → Option Entries → Option Entries
fitting schema row = option_and_then (λ entries. if fits schema.columns entries then Some entries else None) row

-- The row that a call filled, if the call returned true.
abbrev pub given : Bool → Entries → Option Entries
given more row = if more then Some row else None

-- The row of a good record: it has as many fields as the header, those of the columns spell entries, and these fit.
abbrev pub good_row : Format → List Field → List Field → Option Entries
good_row format header fields =
    if nat_eq (length fields) (length header)
    then fitting format.schema (format.entries (in_order format header fields)) else None

-- The rows of the good records, and the number of the bad ones.
abbrev pub good_rows : Format → List Field → List (List Field) → List Entries
good_rows format header records = filter_map (good_row format header) records

abbrev pub bad_count : Format → List Field → List (List Field) → ℕ
bad_count format header records = count_by (λ fields. is_none (good_row format header fields)) records
