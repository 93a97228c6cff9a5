-- Row files of whole numbers: their headers, and the format of a schema.
use Rattle.std.specs.Prelude.{ℕ, Bool, ◌&&◌, not, nat_eq, List, map, count_by, is_some}
use Rattle.std.specs.List.{list_all, prefix_len}
use Rattle.std.specs.Str.{bytes_eq}
use Rattle.csv.specs.Reading.{default_config}
use Rattle.bsi_schema.specs.Columns.{Declared, NamedColumn, position_of}
use Rattle.bsi_rows.specs.Fields.{Field}
use Rattle.bsi_syntax.specs.Numbers.{values_in}
use Rattle.bsi_input.specs.Formats.{max_records, Format}

-- Exactly one field of the header is the column's name.
abbrev pub is_named_once : List Field → NamedColumn → Bool
is_named_once header column = nat_eq (count_by (λ field. bytes_eq field column.name) header) 1

-- A column has this name.
abbrev pub is_known : Declared → Field → Bool
is_known schema field = is_some (position_of schema.columns field)

-- The fields of the header are the names of the columns, each once, in any order.
abbrev pub is_header : Declared → List Field → Bool
is_header schema header = list_all (is_named_once header) schema.columns && list_all (is_known schema) header

-- The index of the field of the header that is the name.
abbrev pub field_index : List Field → Field → ℕ
field_index header name = prefix_len (λ field. not (bytes_eq field name)) header

-- The format of a schema of whole numbers: a field is named as its column, and spells a number or a null.
abbrev pub plain_format : Declared → Format
plain_format schema = record {
  config = default_config;
  schema = schema;
  is_header = is_header schema;
  indexes = λ header. map (λ column. field_index header column.name) schema.columns;
  entries = values_in schema.signed;
  most = max_records;
}
