-- What contracts see of a loader, and what its calls answer.
use Rattle.std.specs.Prelude.{◌≡◌, ℕ, ◌+◌, ◌<◌, ◌≤◌, ⊤, All, IfSome, IsTrue, List, [], ◌∷◌, ◌++◌, Option, None, Some, Result, Ok, Err, drop, length, map, slice_get, slice_index_or, slice_set}
use mathlib.Core.List.{IsPrefix}
use Rattle.bsi_schema.specs.Columns.{fits, Declared}
use Rattle.bsi_rows.specs.RowBlocks.{sourced_from}
use Rattle.bsi_rows.specs.Rows.{Entries, SourcedRow}
use Rattle.bsi_rows.specs.declared.event.LoadRefused.{LoadRefused}
use Rattle.bsi_rows.specs.declared.event.LoadRefused.TheVariants as load
use Rattle.bsi_rows.specs.Runs.{rows_from}
use Rattle.bsi_system.specs.Rings.{channels_of, AllFit, ChannelName, FeederState, IsWhole, RingReader, Sent}
use Rattle.bsi_snapshots.specs.Versions.{PublisherState}

-- A system: its channels, the schema of its rows, and the most rows of its table.
pub record SystemName : Type 0 where
  pub channels : List ChannelName
  pub schema : Declared
  pub limit : ℕ

-- The progress of a feeder: the rows that were popped from its ring, and those that its closing carried, once it is
-- settled.
pub record FeederProgress : Type 0 where
  pub popped : List Entries
  pub carried : Option (List Entries)

-- What is seen of a loader.
pub record LoaderState : Type 0 where
  -- The channels, the schema and the limit of the system.
  pub system : SystemName
  pub progress : List FeederProgress  -- of each feeder
  pub seen : List (List Entries)  -- the rows that are seen in each ring, and not popped
  -- The rows that were published, in order.
  pub published : List SourcedRow
  pub staged : List SourcedRow  -- loaded, and not published yet

-- The progress of a feeder that is not there.
abbrev pub no_progress : FeederProgress
no_progress = record { popped = []; carried = None }

abbrev pub progress_at : List FeederProgress → ℕ → FeederProgress
progress_at progress f = slice_index_or progress f no_progress

abbrev pub popped : LoaderState → ℕ → List Entries
popped s f = (progress_at s.progress f).popped

abbrev pub carried : LoaderState → ℕ → Option (List Entries)
carried s f = (progress_at s.progress f).carried

abbrev pub seen_at : List (List Entries) → ℕ → List Entries
seen_at seen f = slice_index_or seen f []

abbrev pub seen : LoaderState → ℕ → List Entries
seen s f = seen_at s.seen f

-- ---- what always holds

-- Each feeder's published rows, followed by its staged rows, are the rows that were popped from its ring.
abbrev pub Balanced : LoaderState → Type 0
Balanced s = (f : ℕ) → rows_from f (s.published ++ s.staged) ≡ popped s f

-- There is a progress for each feeder of the system.
abbrev pub AreAsMany : LoaderState → Type 0
AreAsMany s = length s.progress ≡ length s.system.channels

-- The popped rows of a settled feeder begin the rows that its closing carried.
abbrev pub WithinCarried : LoaderState → Type 0
WithinCarried s = (f : ℕ) → IfSome (carried s f) (λ sent. IsPrefix (popped s f) sent)

-- What holds after each call of a loader.
pub record AlwaysHolds (s : LoaderState) : Type 0 where
  pub balanced : Balanced s
  pub within : WithinCarried s
  pub many : AreAsMany s

-- ---- the beginning

-- A loader that has popped, seen, published and staged nothing, and settled no feeder.
abbrev pub new_loader_state : List ChannelName → Declared → ℕ → LoaderState
new_loader_state channels schema limit = record {
  system = record { channels = channels; schema = schema; limit = limit };
  progress = map (λ channel. no_progress) channels;
  seen = map (λ channel. []) channels;
  published = [];
  staged = [];
}

-- ---- loads

-- All rows that the closing of feeder f carried were popped.
abbrev pub IsSettled : List FeederProgress → ℕ → Type 0
IsSettled progress f = (progress_at progress f).carried ≡ Some (progress_at progress f).popped

-- Feeder f is there, and not all rows of its closing were popped.
abbrev pub MayLoad : List FeederProgress → ℕ → Type 0
MayLoad progress f = (f < length progress) × ¬ IsSettled progress f

-- The reply to a load. The refusals in order: no such feeder; all rows of its closing are loaded; no row is seen yet;
-- the table is full; no memory.
abbrev pub IsLoaderReply : LoaderState → ℕ → Result (Unit {0}) LoadRefused → Type 0
IsLoaderReply s f (Ok done) = MayLoad s.progress f × (length s.published + length s.staged < s.system.limit)
IsLoaderReply s f (Err load.UnknownFeeder) = length s.progress ≤ f
IsLoaderReply s f (Err load.Ended) = (f < length s.progress) × IsSettled s.progress f
IsLoaderReply s f (Err load.Empty) = (f < length s.progress) × (carried s f ≡ None)
IsLoaderReply s f (Err load.IndexFull) = MayLoad s.progress f × (length s.published + length s.staged ≡ s.system.limit)
IsLoaderReply s f (Err load.NoMemory) = MayLoad s.progress f × (length s.published + length s.staged < s.system.limit)

-- The reply to a load of a whole batch, which is refused as a load of one row is.
abbrev pub IsBatchLoadReply : LoaderState → ℕ → Result ℕ LoadRefused → Type 0
IsBatchLoadReply s f (Ok many) = IsLoaderReply s f (Ok tt)
IsBatchLoadReply s f (Err refused) = IsLoaderReply s f (Err refused)

-- A load is refused for a full table, or for memory, only with a row in the feeder's ring.
abbrev pub RefusesOnlyWithRow : List Entries → LoadRefused → Type 0
RefusesOnlyWithRow seen load.IndexFull = 0 < length seen
RefusesOnlyWithRow seen load.NoMemory = 0 < length seen
RefusesOnlyWithRow seen refused = ⊤

-- State t is s, but for the rows that are seen in the ring of feeder f, which may be any.
abbrev pub ChangesOnlySeen : LoaderState → ℕ → LoaderState → Type 0
ChangesOnlySeen s f t = t ≡ record s { seen = slice_set s.seen f (seen t f) }

-- The progress after these rows were popped.
abbrev pub with_popped_rows : FeederProgress → List Entries → FeederProgress
with_popped_rows t rows = record t { popped = t.popped ++ rows }

-- Rows are popped as the next ones of feeder f, and staged after the others; what is seen in its ring may differ.
abbrev pub LoadsRows : LoaderState → ℕ → List Entries → LoaderState → Type 0
LoadsRows s f rows t =
    t ≡ record s {
      progress = slice_set s.progress f (with_popped_rows (progress_at s.progress f) rows);
      seen = slice_set s.seen f (seen t f);
      staged = s.staged ++ sourced_from f rows;
    }

-- The progress after one row was popped.
abbrev pub with_popped : FeederProgress → Entries → FeederProgress
with_popped t row = with_popped_rows t (row ∷ [])

-- The row is the next one of feeder f. It is popped, and staged after the others.
abbrev pub Loads : LoaderState → ℕ → Entries → LoaderState → Type 0
Loads s f row t = LoadsRows s f (row ∷ []) t

-- One row was loaded, which fits.
abbrev pub LoadsOne : LoaderState → ℕ → LoaderState → Type 0
LoadsOne s f t = (row : Entries) × IsTrue (fits s.system.schema.columns row) × Loads s f row t

-- Rows of feeder f were loaded.
pub record LoadsMany (s : LoaderState) (f many : ℕ) (t : LoaderState) : Type 0 where
  -- The rows that were loaded.
  pub rows : List Entries
  -- There are `many` rows.
  pub count : length rows ≡ many
  -- There is at least one row.
  pub some : 0 < many
  -- Each row fits the schema of the system.
  pub fitting : AllFit s.system.schema rows
  -- The rows were popped from the ring of feeder f, and staged after the others.
  pub loads : LoadsRows s f rows t

-- ---- settling and publishing

-- The channel has this number in the system.
abbrev pub IsChannelOf : ℕ → ChannelName → SystemName → Type 0
IsChannelOf number channel system = slice_get system.channels number ≡ Some channel

-- The closing is of a feeder of this system.
abbrev pub IsClosingOf : Sent → SystemName → Type 0
IsClosingOf closing system = IsChannelOf closing.number closing.channel system

-- The feeder is one of this system.
abbrev pub IsFeederOf : FeederState → SystemName → Type 0
IsFeederOf feeder system = IsChannelOf feeder.number feeder.channel system

-- The loader after feeder f was settled by a closing with these rows. Those that were not popped are seen.
abbrev pub settled_as : LoaderState → ℕ → List Entries → LoaderState
settled_as s f sent = record s {
  progress = slice_set s.progress f (record { popped = popped s f; carried = Some sent });
  seen = slice_set s.seen f (drop (length (popped s f)) sent);
}

-- The loader after all staged rows were published, in order.
abbrev pub published_all : LoaderState → LoaderState
published_all s = record s { published = s.published ++ s.staged; staged = [] }

-- ---- a loader, by its ring readers and its publisher

abbrev pub reader_progress : RingReader → FeederProgress
reader_progress i = record { popped = i.popped; carried = i.carried }

abbrev pub progress_of : List RingReader → List FeederProgress
progress_of readers = map reader_progress readers

abbrev pub seen_of : List RingReader → List (List Entries)
seen_of readers = map (λ i. i.seen) readers

abbrev pub loader_state : List RingReader → PublisherState → LoaderState
loader_state readers w = record {
  system = record { channels = channels_of readers; schema = w.table.schema; limit = w.table.limit };
  progress = progress_of readers;
  seen = seen_of readers;
  published = w.table.rows;
  staged = w.staged;
}

-- The invariant of a loader.
pub record IsLoader (readers : List RingReader) (w : PublisherState) : Type 0 where
  -- Each feeder's published rows, followed by its staged rows, are the rows that were popped from its ring.
  pub balanced : Balanced (loader_state readers w)
  -- If a reader is settled, its popped and seen rows are those that the closing carried.
  pub whole : All IsWhole readers
  -- The schema of each channel is that of the table.
  pub alike : All (λ channel. channel.schema ≡ w.table.schema) (channels_of readers)
  -- There is a channel for each feeder of the table.
  pub many : length (channels_of readers) ≡ w.table.feeders
