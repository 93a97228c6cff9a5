-- The published versions of an index, the rows that are staged for the next one, and what contracts see of their
-- publisher (`PublisherState`).
use Rattle.std.specs.Prelude.{◌≡◌, ℕ, ◌+◌, List, [], ◌∷◌, ◌++◌, drop, fold, length}
use mathlib.Core.List.{IsPrefix}
use Rattle.left_right.specs.declared.Absorb.{Ghosts}
use Rattle.left_right.specs.declared.writer.Writer.{Writer}
use Rattle.logbook.specs.Pages.{Book}
use Rattle.bsi_rows.specs.RowBlocks.{sourced_from, RowBlock}
use Rattle.bsi_rows.specs.Rows.{Entries}
use Rattle.bsi_rows.specs.Table.{no_rows, with_rows, Table}
use Rattle.bsi_snapshots.specs.History.{RowList, Version, VersionToken}
use Rattle.bsi_snapshots.specs.declared.operation.Operation.{Operation}
use Rattle.bsi_snapshots.specs.declared.operation.Operation.TheVariants.{Block as block_operation, Batch, Stamp}

-- The most analysts of a system.
abbrev pub max_analysts : ℕ
max_analysts = 8

-- The version after a pending operation.
abbrev pub after : Version → Operation → Version
after e (block_operation block) = record e { table = with_rows e.table block.rows }
after e (Batch batch) = record e { table = with_rows e.table batch.rows }
after e (Stamp token) = record e { token = token }

-- The same table without rows.
abbrev pub emptied : Table → Table
emptied t = no_rows t.schema t.feeders t.limit

-- A version of the system of this history, which began as the table `about`.
pub record IsVersionOf (book : Book) (about : Table) (e : Version) : Type 0 where
  -- Its token is of this history.
  pub book_is : e.token.book ≡ book
  -- Its rows are those that its token stands for.
  pub list_is : e.token.list ≡ e.table.rows
  -- Without its rows it is the table that the system began as.
  pub about_is : emptied e.table ≡ about

-- The operations of a publisher that analysts do not see yet.
abbrev pub pending : {T O V P A S : Type 0} {g : Ghosts T O S} → Writer T O V P A S g → List O
pending w = drop w.behind w.log.items

-- The rows of pending operations, in order.
abbrev pub pending_rows : List Operation → RowList
pending_rows [] = []
pending_rows (block_operation block ∷ pending) = block.rows ++ pending_rows pending
pending_rows (Batch batch ∷ pending) = batch.rows ++ pending_rows pending
pending_rows (Stamp token ∷ pending) = pending_rows pending

-- The rows of the shown version, followed by those of the pending operations. A publish first makes the write buffer a
-- pending operation, so these are then the rows of the next version.
abbrev pub to_show : Version → List Operation → RowList
to_show shown pending = shown.table.rows ++ pending_rows pending

-- A block whose rows the table accepts.
pub record IsFor (table : Table) (block : RowBlock) : Type 0 where
  pub schema : block.schema ≡ table.schema
  pub feeders : block.feeders ≡ table.feeders

-- A write buffer for the table: but for its rows, it is the same table.
abbrev pub IsBufferOf : Table → Table → Type 0
IsBufferOf table buffer = emptied buffer ≡ emptied table

-- What contracts see of a publisher: the published table, and the staged rows in order.
pub record PublisherState : Type 0 where
  pub table : Table
  pub staged : RowList

-- The view of a publisher by the shown version, the pending operations, and the rows in the write buffer.
abbrev pub publisher_state : Version → List Operation → RowList → PublisherState
publisher_state shown pending buffer = record { table = shown.table; staged = pending_rows pending ++ buffer }

-- The publisher after these rows of a feeder were staged.
abbrev pub with_staged_rows : PublisherState → ℕ → List Entries → PublisherState
with_staged_rows w feeder rows = record w { staged = w.staged ++ sourced_from feeder rows }

-- The publisher after one row was staged.
abbrev pub with_staged : PublisherState → ℕ → Entries → PublisherState
with_staged w feeder row = with_staged_rows w feeder (row ∷ [])

-- The publisher after all staged rows were published, in order.
abbrev pub with_all_published : PublisherState → PublisherState
with_all_published w = record { table = record w.table { rows = w.table.rows ++ w.staged }; staged = [] }

-- Rows of the write buffer may have become pending operations: from `pending` and `buffer` to `more` and `left`. The
-- staged rows are the same, in the same order.
pub record MovesToPending (pending : List Operation) (buffer : RowList) (more : List Operation) (left : RowList) : Type 0 where
  pub staged : pending_rows more ++ left ≡ pending_rows pending ++ buffer
  -- The old pending rows are a prefix of the new ones.
  pub begins : IsPrefix (pending_rows pending) (pending_rows more)
  -- No stamp was added: whatever version they are applied to, both lead to the same token.
  pub token : (e : Version) → (fold after e more).token ≡ (fold after e pending).token

-- The last stamped version, or the shown version if no stamp is pending, has `stamped` rows: the first of the rows to
-- show.
pub record LastStampIsPrefix (book : Book) (shown : Version) (pending : List Operation) (stamped : ℕ) : Type 0 where
  pub same_book : (fold after shown pending).token.book ≡ book
  pub begins : IsPrefix (fold after shown pending).token.list (to_show shown pending)
  pub many : length (fold after shown pending).token.list ≡ stamped

-- The invariant of a publisher, by its shown version, pending operations, write buffer and history. `free` is how many
-- rows may still be staged.
pub record IsPublisher (book : Book) (about : Table) (shown : Version) (pending : List Operation) (buffer : RowList)
    (history : VersionToken) (free : ℕ)
    : Type 0 where
  -- A version of this system is shown.
  pub version_is : IsVersionOf book about shown
  -- The history is that of the system.
  pub same_book : history.book ≡ book
  -- The last list of the history is a prefix of the rows to show.
  pub begins : IsPrefix history.list (to_show shown pending)
  -- The shown, pending, buffered and free rows together are as many as the limit.
  pub free_is : length shown.table.rows + length (pending_rows pending) + length buffer + free ≡ shown.table.limit
