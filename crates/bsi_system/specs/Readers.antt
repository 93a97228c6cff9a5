-- What a call does to one of the loader's ring readers.
use Rattle.std.specs.Prelude.{◌≡◌, ℕ, ◌<◌, ◌≤◌, Bool, true, false, All, IfSome, List, [], ◌∷◌, ◌++◌, None, Some, Result, Ok, Err, length, slice_get, slice_set}
use Rattle.bsi_rows.specs.RowBlocks.{entries_of}
use Rattle.bsi_rows.specs.Rows.{Entries}
use Rattle.bsi_table.specs.Index.{IndexedTable}
use Rattle.bsi_rows.specs.declared.event.LoadRefused.{LoadRefused}
use Rattle.bsi_rows.specs.declared.event.LoadRefused.TheVariants as load
use Rattle.bsi_system.specs.declared.ring_reader.Front.{Front}
use Rattle.bsi_system.specs.Rings.{channels_of, with_more_popped, with_seen, AllFit, IsFront, IsWhole, RingReader, Sent, Settles}
use Rattle.bsi_snapshots.specs.Versions.{with_staged_rows, PublisherState}
use Rattle.bsi_system.specs.LoaderSteps.{progress_at, progress_of, seen_at, seen_of, FeederProgress, IsSettled, MayLoad}

-- The reader of feeder f was looked at.
pub record LooksAtReader (old : List RingReader) (f : ℕ) (front : Front) (new : List RingReader) : Type 0 where
  -- The reader of feeder f before the look.
  pub before : RingReader
  -- The rows that are seen in the ring after the look.
  pub seen : List Entries
  -- The old list has this reader for feeder f.
  pub at : slice_get old f ≡ Some before
  -- Only the seen rows of this reader may differ.
  pub now : new ≡ slice_set old f (with_seen before seen)
  -- `front` is what the ring has at its front: a row that fits, none yet, or none any more.
  pub front_is : IsFront (with_seen before seen) front
  -- If the reader is settled, its popped and seen rows are those that the closing carried.
  pub whole : IsWhole (with_seen before seen)

-- The first n rows in the ring of feeder f were popped.
pub record PopsAt (old : List RingReader) (f n : ℕ) (new : List RingReader) : Type 0 where
  -- The reader of feeder f before the call.
  pub before : RingReader
  -- The old list has this reader for feeder f.
  pub at : slice_get old f ≡ Some before
  -- The reader popped the first n rows that it had seen. The other readers are unchanged.
  pub now : new ≡ slice_set old f (with_more_popped before n)
  -- If the reader is settled, its popped and seen rows are those that the closing carried.
  pub whole : IsWhole (with_more_popped before n)

-- The reader of feeder f was settled by this closing.
pub record SettlesAt (old : List RingReader) (f : ℕ) (closing : Sent) (new : List RingReader) : Type 0 where
  -- The reader before the call.
  pub before : RingReader
  -- The reader after the call.
  pub after : RingReader
  -- The old list has the reader `before` for feeder f.
  pub at : slice_get old f ≡ Some before
  -- The new list has the reader `after` for feeder f. The other readers are unchanged.
  pub now : new ≡ slice_set old f after
  -- The reader is settled by the rows of the closing. Besides, only its seen rows may differ.
  pub settles : Settles before closing after
  -- A closing that settled the reader before carried the same rows.
  pub once : IfSome before.carried (λ sent. closing.rows ≡ sent)
  -- The popped and seen rows of the reader are those that the closing carried.
  pub whole : IsWhole after

-- At most, the ring of feeder f was looked at.
pub record AreUnpopped (old : List RingReader) (f : ℕ) (new : List RingReader) : Type 0 where
  -- No row was popped, and no reader was settled.
  pub progress : progress_of new ≡ progress_of old
  -- The channels are unchanged.
  pub channels : channels_of new ≡ channels_of old
  -- Only what is seen in the ring of feeder f may differ.
  pub seen : seen_of new ≡ slice_set (seen_of old) f (seen_at (seen_of new) f)
  -- Settled readers still miss no row of their closings.
  pub whole : All IsWhole old → All IsWhole new

-- The rows are the first in the ring of feeder f.
pub record AreFirstAt (readers : List RingReader) (f : ℕ) (rows : List Entries) : Type 0 where
  -- The reader of feeder f.
  pub ring_reader : RingReader
  -- The other rows that are seen in the ring.
  pub rest : List Entries
  -- The list has this reader for feeder f.
  pub at : slice_get readers f ≡ Some ring_reader
  -- The rows that are seen in the ring are the given ones, followed by the others.
  pub first : ring_reader.seen ≡ rows ++ rest
  -- Each given row fits the schema of the channel.
  pub fitting : AllFit ring_reader.channel.schema rows

-- The row is the first in the ring of feeder f, and fits.
abbrev pub IsFirstAt : List RingReader → ℕ → Entries → Type 0
IsFirstAt readers f row = AreFirstAt readers f (row ∷ [])

-- A row that fits is at the front of the ring of feeder f.
abbrev pub HasFirst : List RingReader → ℕ → Type 0
HasFirst readers f = (row : Entries) × IsFirstAt readers f row

-- The rows of a batch that is not empty are the first in the ring of feeder f.
pub record IsBatchAt (readers : List RingReader) (f : ℕ) (batch : IndexedTable) : Type 0 where
  pub first : AreFirstAt readers f (entries_of batch.rows)
  pub some : 0 < length batch.rows

-- First rows in the ring of feeder f were staged too.
pub record StagesFirst (readers : List RingReader) (f : ℕ) (w : PublisherState) (many : ℕ) (next : PublisherState) : Type 0 where
  -- The rows that were staged.
  pub rows : List Entries
  -- There are `many` rows.
  pub count : length rows ≡ many
  -- There is at least one row.
  pub some : 0 < many
  -- The rows are the first in the ring of feeder f, and each fits.
  pub first : AreFirstAt readers f rows
  -- The rows are staged after the others of the publisher, as rows of feeder f.
  pub staged : next ≡ with_staged_rows w f rows

-- The reply to the question whether the next row of feeder f can be loaded, by whether the table is full.
abbrev pub IsFirstReply : List FeederProgress → ℕ → Bool → Result (Unit {0}) LoadRefused → Type 0
IsFirstReply progress f full (Ok done) = MayLoad progress f × (full ≡ false)
IsFirstReply progress f full (Err load.UnknownFeeder) = length progress ≤ f
IsFirstReply progress f full (Err load.Ended) = (f < length progress) × IsSettled progress f
IsFirstReply progress f full (Err load.Empty) = (f < length progress) × ((progress_at progress f).carried ≡ None)
IsFirstReply progress f full (Err load.IndexFull) = MayLoad progress f × (full ≡ true)
IsFirstReply progress f full (Err load.NoMemory) = MayLoad progress f × (full ≡ false)
