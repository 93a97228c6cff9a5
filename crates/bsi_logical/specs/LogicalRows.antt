-- Row files by a logical schema: which headers they may have, and what their fields spell (`logical_format`).
use Rattle.std.specs.Prelude.{ℕ, ◌+◌, ◌^◌, Bool, nat_eq, if◌then◌else◌, List, [], ◌∷◌, map, count_by, Option, Some, None, option_map, option_and_then, ℤ}
use Rattle.std.specs.List.{list_all}
use Rattle.std.specs.Str.{bytes_eq}
use Rattle.bsi_schema.specs.Columns.{is_accepted_by, NamedColumn}
use Rattle.bsi_rows.specs.Rows.{Entries}
use Rattle.bsi_rows.specs.Fields.{Field}
use Rattle.bsi_kinds.specs.FieldNumbers.{field_number}
use Rattle.bsi_input.specs.Formats.{config_of, Format}
use Rattle.bsi_input.specs.RowFiles.{field_index}
use Rattle.bsi_logical.specs.Entries.{is_null}
use Rattle.bsi_logical.specs.HeaderTitles.{titles_of}
use Rattle.bsi_logical.specs.Logical.{kind_of, Logical}

-- Exactly one of these titles is the title.
abbrev pub is_titled_once : List Field → Field → Bool
is_titled_once titles title = nat_eq (count_by (λ other. bytes_eq other title) titles) 1

-- Exactly one field of the header has each title, among any other fields.
abbrev pub has_titles : Logical → List Field → Bool
has_titles l header = list_all (is_titled_once (titles_of header)) l.titles

-- The entry that a field of column c spells, or none if it spells none: the only one of which `IsEntry` holds.
abbrev pub entry_of : Logical → ℕ → Field → Option (Option ℤ)
entry_of l c field =
    if is_null l c field then Some None else option_map (λ n. Some n) (field_number (kind_of l c) l.dialect.point field)

-- The entries that fields spell, the first of them as one of column c, or none if some field spells none.
unfoldable pub entries_from : Logical → ℕ → List Field → Option Entries
entries_from l c [] = Some []
entries_from l c (field ∷ fields) =
    option_and_then (λ entry. option_map (λ entries. entry ∷ entries) (entries_from l (c + 1) fields)) (entry_of l c field)

-- An entry, if a column accepts it.
abbrev pub accepted_entry : NamedColumn → Option (Option ℤ) → Option (Option ℤ)
accepted_entry column found = option_and_then (λ entry. if is_accepted_by column entry then Some entry else None) found

-- The most records of a row file of kinds.
abbrev pub max_logical_records : ℕ
max_logical_records = 2 ^ 63

-- The format of a logical schema: a column's field is under its title, and spells a value of its kind, or a null.
abbrev pub logical_format : Logical → Format
logical_format l = record {
  config = config_of l.dialect.delimiter;
  schema = l.schema;
  is_header = has_titles l;
  indexes = λ header. map (field_index (titles_of header)) l.titles;
  entries = entries_from l 0;
  most = max_logical_records;
}
