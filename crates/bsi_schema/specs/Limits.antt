-- The numbers that a column accepts.
use Rattle.bsi_schema.specs.Columns.{NamedColumn, size_in}
use Rattle.bsi_schema.specs.declared.limits.Limits.{Limits}

-- the numbers from the offset of the column on, as many as its form has
abbrev pub limits_of : NamedColumn → Limits
limits_of column = record { least = column.offset; size = size_in column.form }
