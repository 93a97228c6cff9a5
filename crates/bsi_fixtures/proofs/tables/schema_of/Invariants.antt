use Rattle.std.proofs.Common.{◌≡◌, map, take}
use Rattle.std.specs.List.{list_any}
use Rattle.bsi_fixtures.specs.Tables.{as_column, has_offset}
use Rattle.bsi_fixtures.proofs.tables.schema_of.Given as goal

abbrev pub invariant-loop-column : goal.invariant-loop-column
invariant-loop-column l =
    (l.schema.columns ≡ map as_column (take l.column-index l.columns))
    × (l.schema.signed ≡ list_any has_offset (take l.column-index l.columns))
