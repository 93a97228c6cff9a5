-- Dialects: the byte between the fields of row files, and the decimal point.
use Rattle.std.specs.Prelude.{ℕ, Bool, ◌&&◌, ◌||◌, ◌==◌, not}
use Rattle.bsi_logical.specs.declared.dialect.Dialect.{Dialect}

abbrev pub dialect : ℕ → ℕ → Dialect
dialect delimiter point = record { delimiter = delimiter; point = point }

-- A comma between fields, and a point in decimals.
abbrev pub usual_dialect : Dialect
usual_dialect = dialect 44 46

abbrev pub is_usual : Dialect → Bool
is_usual d = (d.delimiter == 44) && (d.point == 46)

-- A quote or a line end.
abbrev pub is_reserved : ℕ → Bool
is_reserved byte = (byte == 34) || (byte == 10) || (byte == 13)

-- A point or a comma.
abbrev pub is_point : ℕ → Bool
is_point byte = (byte == 46) || (byte == 44)

-- A valid dialect: its delimiter is not reserved, its point is a point or a comma, and they differ.
abbrev pub is_dialect : Dialect → Bool
is_dialect d = not (is_reserved d.delimiter) && is_point d.point && not (d.delimiter == d.point)
