-- What a contract sees of an index (`IndexedTable`): its table, and for how many more rows there is room.
use Rattle.std.specs.Prelude.{ℕ, ◌+◌, ◌≤◌, List, length}
use Rattle.bsi_origins.specs.Origins.{OriginList}
use Rattle.bsi_rows.specs.Rows.{SourcedRow}
use Rattle.bsi_rows.specs.Table.{max_rows, table, Table}
use Rattle.bsi_table.specs.Encoded.{HaveRoom}
use Rattle.bsi_schema.specs.Columns.{Declared}
use Rattle.bsi_shift.specs.Shifted.{OffsetColumn}

-- an index as contracts see it
pub record IndexedTable : Type 0 where
  -- the columns in order, and whether one was declared with an offset
  pub schema : Declared
  -- the number of feeders
  pub feeders : ℕ
  -- the most rows of the index
  pub limit : ℕ
  -- the rows in order, each with its feeder
  pub rows : List SourcedRow
  -- for how many more rows the index has memory
  pub room : ℕ

-- the table of an index
abbrev pub table_of : IndexedTable → Table
table_of index = table index.schema index.feeders index.limit index.rows

-- each column and the origins have room for `room` more rows
pub record AreRoomy (encoded : List OffsetColumn) (feeders : OriginList) (room : ℕ) : Type 0 where
  pub within : length feeders.rows + room ≤ max_rows
  pub columns : HaveRoom encoded (length encoded) room
  pub origins : room ≤ feeders.room
