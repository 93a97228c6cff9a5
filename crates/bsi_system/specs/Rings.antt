-- What contracts see of a ring's two ends: the rows that were sent, those that were popped, and those that the closing
-- carries.
use Rattle.std.specs.Prelude.{◌≡◌, ℕ, suc, ◌+◌, ◌-◌, ◌<◌, ◌≤◌, ◌⊎◌, false, All, IfSome, IsTrue, List, [], ◌∷◌, ◌++◌, Option, None, Some, Result, Ok, Err, drop, length, map, option_map, take}
use Rattle.std.specs.declared.alloc.Global.{Global}
use denote.RawPtr.{Ptr}
use Rattle.rtrb.specs.Shared.{Names}
use Rattle.rtrb.specs.declared.end.End.{End}
use Rattle.bsi_schema.specs.Columns.{fits, Declared}
use Rattle.bsi_rows.specs.RowBlocks.{entries_of, HaveSameLimits}
use Rattle.bsi_rows.specs.Rows.{Entries}
use Rattle.bsi_table.specs.Index.{IndexedTable}
use Rattle.bsi_system.specs.declared.feeder.BatchRefused.{BatchRefused}
use Rattle.bsi_system.specs.declared.feeder.BatchRefused.TheVariants as batch
use Rattle.bsi_system.specs.declared.feeder.SubmitRefused.{SubmitRefused}
use Rattle.bsi_system.specs.declared.feeder.SubmitRefused.TheVariants.{Misfit, Full}
use Rattle.bsi_system.specs.declared.message.Message.{Message}
use Rattle.bsi_system.specs.declared.message.Message.TheVariants as message
use Rattle.bsi_system.specs.declared.ring_reader.Front.{Front}
use Rattle.bsi_system.specs.declared.ring_reader.Front.TheVariants as front

-- A ring's identity: its memory, and the names by which its two ends are known.
abbrev pub Ring : Type 0
Ring = (Ptr × Ptr) × (Names × Global)

-- The ring that one end belongs to.
abbrev pub ring_of : {T P : Type 0} → End T Global P → Ring
ring_of e = ((e.words, e.slots), (e.names, e.heap))

-- A channel: a ring, and the schema that its rows fit.
pub record ChannelName : Type 0 where
  pub ring : Ring
  pub schema : Declared

-- Each row fits the schema.
abbrev pub AllFit : Declared → List Entries → Type 0
AllFit schema rows = All (λ row. IsTrue (fits schema.columns row)) rows

-- ---- messages

-- The rows of a message, the first one first.
abbrev pub rows_of : Message → List Entries
rows_of (message.Row row) = row ∷ []
rows_of (message.Batch batch) = entries_of batch.index.rows

-- The rows of messages, in order.
abbrev pub all_rows : List Message → List Entries
all_rows [] = []
all_rows (p ∷ messages) = rows_of p ++ all_rows messages

-- The rows of the first message.
abbrev pub first_rows : List Message → List Entries
first_rows [] = []
first_rows (p ∷ messages) = rows_of p

-- A feeder of this schema may send the message: a row that fits, or a batch whose columns have the same limits, so
-- that each of its rows fits.
abbrev pub IsMessageFor : Declared → Message → Type 0
IsMessageFor schema (message.Row row) = IsTrue (fits schema.columns row)
IsMessageFor schema (message.Batch batch) =
    HaveSameLimits batch.index.schema schema × AllFit schema (entries_of batch.index.rows)

-- ---- a feeder

-- What a feeder has seen of its ring.
pub record Look : Type 0 where
  pub acked : ℕ  -- how many of its rows the loader has acknowledged as popped
  pub free : ℕ  -- how many slots of the ring were free

-- What contracts see of a feeder.
pub record FeederState : Type 0 where
  -- The number of the feeder in the system.
  pub number : ℕ
  -- The ring that the feeder sends to, and the schema of its rows.
  pub channel : ChannelName
  -- The capacity of the ring, in rows.
  pub capacity : ℕ
  pub sent : List Entries  -- the rows that were sent, the first one first
  -- What the feeder has seen of its ring at its last look.
  pub look : Look

-- A feeder that has sent nothing.
abbrev pub new_feeder_state : ℕ → ChannelName → ℕ → FeederState
new_feeder_state number channel capacity =
    record { number = number; channel = channel; capacity = capacity; sent = []; look = record { acked = 0; free = capacity } }

-- The feeder after another look at its ring.
abbrev pub with_look : FeederState → Look → FeederState
with_look s look = record s { look = look }

-- The feeder after these rows were sent.
abbrev pub with_sent_rows : FeederState → List Entries → FeederState
with_sent_rows s rows = record s { sent = s.sent ++ rows }

-- The feeder after one row was sent.
abbrev pub with_sent : FeederState → Entries → FeederState
with_sent s row = with_sent_rows s (row ∷ [])

-- With `rows` rows more, the rows in flight are no more than the capacity of the ring.
abbrev pub HasCredit : FeederState → ℕ → Look → Type 0
HasCredit s rows look = length s.sent + rows ≤ s.capacity + look.acked

-- The ring is full for `rows` rows: they would exceed its capacity, by the rows that the loader has acknowledged; or
-- no slot was free, though as many rows were sent.
abbrev pub IsFull : FeederState → ℕ → Look → Type 0
IsFull s rows look = (s.capacity < length s.sent + rows) × (¬ HasCredit s rows look ⊎ (look.free ≡ 0))

-- The reply to the submission of a row, and what was seen of the ring.
abbrev pub IsSubmitReply : FeederState → Entries → Look → Result (Unit {0}) SubmitRefused → Type 0
IsSubmitReply s row look (Ok done) = IsTrue (fits s.channel.schema.columns row) × HasCredit s 1 look
IsSubmitReply s row look (Err (Misfit back)) = (back ≡ row) × (fits s.channel.schema.columns row ≡ false)
IsSubmitReply s row look (Err (Full back)) =
    (back ≡ row) × IsTrue (fits s.channel.schema.columns row) × IsFull s 1 look

-- The reply to the submission of a batch.
abbrev pub IsBatchReply : FeederState → IndexedTable → Look → Result (Unit {0}) BatchRefused → Type 0
IsBatchReply s sent look (Ok done) = HaveSameLimits sent.schema s.channel.schema × HasCredit s (length sent.rows) look
IsBatchReply s sent look (Err (batch.Misfit back)) = (back ≡ sent) × ¬ HaveSameLimits sent.schema s.channel.schema
IsBatchReply s sent look (Err (batch.Full back)) =
    (back ≡ sent) × HaveSameLimits sent.schema s.channel.schema × IsFull s (length sent.rows) look

-- ---- a closing

-- What contracts see of a closing: the number and the channel of the feeder, and the rows that it sent.
pub record Sent : Type 0 where
  pub number : ℕ
  pub channel : ChannelName
  pub rows : List Entries  -- all rows that were sent, the first one first

-- The closing c is that of feeder s, and the rows that s sent fit.
pub record Closes (s : FeederState) (c : Sent) : Type 0 where
  -- The closing has the number of the feeder.
  pub number : c.number ≡ s.number
  -- The closing has the channel of the feeder.
  pub channel : c.channel ≡ s.channel
  -- The closing carries exactly the rows that were sent.
  pub rows : c.rows ≡ s.sent
  -- Each of these rows fits the schema of the channel.
  pub fitting : AllFit s.channel.schema s.sent

-- ---- the loader's end

-- What contracts see of the loader's end of a ring.
pub record RingReader : Type 0 where
  -- The ring that the rows come from, and the schema that they fit.
  pub channel : ChannelName
  pub popped : List Entries  -- the rows that were popped from the ring, the first one first
  pub seen : List Entries  -- the rows that were seen in the ring and not popped
  pub carried : Option (List Entries)  -- the rows that the closing carried, once the reader is settled

-- A reader that has popped and seen nothing, and is not settled.
abbrev pub new_reader : ChannelName → RingReader
new_reader channel = record { channel = channel; popped = []; seen = []; carried = None }

-- Once the reader is settled: the popped rows, followed by those in the ring, are the rows that the closing carried.
abbrev pub IsWhole : RingReader → Type 0
IsWhole i = IfSome i.carried (λ sent. i.popped ++ i.seen ≡ sent)

-- What is seen of a reader. Its ring gave the messages `received` and still has the messages `known`. The first `next`
-- rows of these are popped too.
abbrev pub ring_reader : ChannelName → List Message → List Message → ℕ → Option (List Message) → RingReader
ring_reader channel received known next carried = record {
  channel = channel;
  popped = all_rows received ++ take next (all_rows known);
  seen = drop next (all_rows known);
  carried = option_map all_rows carried;
}

-- The invariant of a reader: at least one row is left of the first message. The closing carried the received messages,
-- followed by those in the ring, and a feeder of this schema may send each.
pub record IsRingReader (schema : Declared) (received known : List Message) (next : ℕ) (carried : Option (List Message)) : Type 0 where
  pub within_first : next ≤ length (first_rows known) - 1
  pub whole : IfSome carried (λ sent. received ++ known ≡ sent)
  pub fitting : IfSome carried (All (IsMessageFor schema))

-- The reader after another look at its ring.
abbrev pub with_seen : RingReader → List Entries → RingReader
with_seen i seen = record i { seen = seen }

-- The reader after the first n rows in the ring were popped.
abbrev pub with_more_popped : RingReader → ℕ → RingReader
with_more_popped i n = record i { popped = i.popped ++ take n i.seen; seen = drop n i.seen }

-- The reader is settled by this closing: all rows that were sent and not popped are seen.
abbrev pub Settles : RingReader → Sent → RingReader → Type 0
Settles old closing new = new ≡ record old { carried = Some closing.rows; seen = new.seen }

-- What is at the front of a ring: a row that fits; no row yet; or no row any more.
abbrev pub IsFront : RingReader → Front → Type 0
IsFront i front.Row =
    (row : Entries) × (rest : List Entries) × (i.seen ≡ row ∷ rest) × IsTrue (fits i.channel.schema.columns row)
IsFront i front.Empty = i.carried ≡ None
IsFront i front.Ended = i.carried ≡ Some i.popped

-- ---- all rings of a system

-- The feeders of these channels, as they are opened, numbered from n.
abbrev pub new_feeders : ℕ → List ChannelName → List ℕ → List FeederState
new_feeders n [] capacities = []
new_feeders n (channel ∷ channels) [] = []
new_feeders n (channel ∷ channels) (capacity ∷ capacities) =
    new_feeder_state n channel capacity ∷ new_feeders (suc n) channels capacities

-- The channel of each reader.
abbrev pub channels_of : List RingReader → List ChannelName
channels_of readers = map (λ i. i.channel) readers

-- New rings: the feeders' ends, and the loader's.
pub record AreOpened (schema : Declared) (capacities : List ℕ) (feeders : List FeederState) (readers : List RingReader)
    : Type 0 where
  -- There is a reader for each capacity.
  pub many : length readers ≡ length capacities
  -- The channel of each reader has this schema.
  pub alike : All (λ i. i.channel.schema ≡ schema) readers
  -- Each reader has popped and seen nothing, and is not settled.
  pub readers_are : readers ≡ map new_reader (channels_of readers)
  -- The feeders have these channels and capacities, are numbered from 0, and have sent nothing.
  pub feeders_are : feeders ≡ new_feeders 0 (channels_of readers) capacities
