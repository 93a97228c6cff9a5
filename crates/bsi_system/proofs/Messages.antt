-- The rows of messages: how many there are, which fit, and those that stand first.
use Rattle.std.proofs.Common.{◌≡◌, ℕ, ◌+◌, ◌-◌, ◌<◌, ◌≤◌, List, [], ◌∷◌, ◌++◌, All, length, drop, take, refl, sym, ◌∙◌, subst, ap, arith, append_assoc, length-append, length-drop}
use Rattle.std.specs.Prelude.{IsTrue}
use Rattle.std.proofs.lemmas.List.{append-nil, length-map, take-append-le}
use Rattle.std.proofs.lemmas.List.Elements.{All-append, All-cons, All-head, All-map, All-nil, All-push, All-tail}
use mathlib.Core.List.{IsPrefix}
use Rattle.bsi_schema.specs.Columns.{fits, Declared}
use Rattle.bsi_rows.specs.RowBlocks.{entries_of}
use Rattle.bsi_rows.specs.Rows.{SourcedRow}
use Rattle.bsi_rows.specs.Table.{AreFitting}
use Rattle.bsi_system.specs.declared.message.Message.{Message}
use Rattle.bsi_system.specs.declared.message.Message.TheVariants as message
use Rattle.bsi_system.specs.Rings.{all_rows, first_rows, rows_of, with_look, with_sent_rows, AllFit, FeederState, IsMessageFor, Look, Ring}

-- ---- how many there are

-- a message has a row
pub some_rows : (p : Message) → 0 < length (rows_of p)
some_rows (message.Row row) = omega arith
some_rows (message.Batch batch) = omega (arith, batch.some, length-map batch.index.rows (λ (row : SourcedRow). row.1))

pub all_rows-append : (ps qs : List Message) → all_rows (ps ++ qs) ≡ all_rows ps ++ all_rows qs
all_rows-append [] qs = refl
all_rows-append (p ∷ ps) qs = ap (λ rows. rows_of p ++ rows) (all_rows-append ps qs) ∙ sym (append_assoc (rows_of p) (all_rows ps) (all_rows qs))

-- one message more stands last
pub all_rows-push : (ps : List Message) (p : Message) → all_rows (ps ++ p ∷ []) ≡ all_rows ps ++ rows_of p
all_rows-push ps p = all_rows-append ps (p ∷ []) ∙ ap (λ rows. all_rows ps ++ rows) (append-nil (rows_of p))

-- there are at least as many rows as messages
pub many_rows : (ps : List Message) → length ps ≤ length (all_rows ps)
many_rows [] = omega arith
many_rows (p ∷ ps) = omega (arith, many_rows ps, some_rows p, length-append (rows_of p) (all_rows ps))

-- ---- which fit

pub parcel_fits : (schema : Declared) (p : Message) → IsMessageFor schema p → AllFit schema (rows_of p)
parcel_fits schema (message.Row row) is = All-cons (λ r. IsTrue (fits schema.columns r)) row [] is (All-nil (λ r. IsTrue (fits schema.columns r)))
parcel_fits schema (message.Batch batch) is = is.1

-- rows of feeders that fit do so without their feeders
pub entries_fit : (schema : Declared) (rows : List SourcedRow) → AreFitting schema.columns rows → AllFit schema (entries_of rows)
entries_fit schema rows fitting = All-map (λ row. IsTrue (fits schema.columns row)) (λ (row : SourcedRow). row.1) rows fitting

-- each row that a feeder of a schema sends fits it
pub rows_fit : (schema : Declared) (ps : List Message) → All (IsMessageFor schema) ps → AllFit schema (all_rows ps)
rows_fit schema [] all = All-nil (λ row. IsTrue (fits schema.columns row))
rows_fit schema (p ∷ ps) all =
    All-append (λ row. IsTrue (fits schema.columns row)) (rows_of p) (all_rows ps)
    (parcel_fits schema p (All-head (IsMessageFor schema) p ps all)) (rows_fit schema ps (All-tail (IsMessageFor schema) p ps all))

-- a message more is sent, and its rows are counted
pub one_sent : (schema : Declared) (sent : List Message) (p : Message) (count : ℕ) → All (IsMessageFor schema) sent → IsMessageFor schema p → count ≡ length (all_rows sent) + length (rows_of p)
    → All (IsMessageFor schema) (sent ++ p ∷ []) × (count ≡ length (all_rows (sent ++ p ∷ [])))
one_sent schema sent p count all is counted =
    (All-push (IsMessageFor schema) sent p all is, omega (arith, counted, ap length (all_rows-push sent p), length-append (all_rows sent) (rows_of p)))

-- the feeder of a ring to which a message more is sent
pub sends : (number : ℕ) (ring before : Ring) (schema : Declared) (capacity slots : ℕ) (sent now : List Message) (seen look : Look) (p : Message) (f : FeederState)
    → ring ≡ before → capacity ≡ slots → now ≡ sent ++ p ∷ []
    → record { number = number; channel = record { ring = before; schema = schema }; capacity = slots; sent = all_rows sent; look = seen } ≡ f
    → record { number = number; channel = record { ring = ring; schema = schema }; capacity = capacity; sent = all_rows now; look = look } ≡ with_look (with_sent_rows f (rows_of p)) look
sends number ring before schema capacity slots sent now seen look p f same as_many more is =
    ap (λ (r : Ring). record { number = number; channel = record { ring = r; schema = schema }; capacity = capacity; sent = all_rows now; look = look }) same
    ∙ (ap (λ (n : ℕ). record { number = number; channel = record { ring = before; schema = schema }; capacity = n; sent = all_rows now; look = look }) as_many
    ∙ (ap (λ rows. record { number = number; channel = record { ring = before; schema = schema }; capacity = slots; sent = rows; look = look }) (ap all_rows more ∙ all_rows-push sent p)
    ∙ ap (λ s. with_look (with_sent_rows s (rows_of p)) look) is))

-- ---- those that stand first

-- where a row is left, a message is
pub known_some : (known : List Message) (next : ℕ) → 0 < length (drop next (all_rows known)) → 0 < length known
known_some [] next some = omega (arith, some, length-drop next (all_rows []))
known_some (p ∷ known) next some = omega arith

-- the messages that are seen may be more
module _ (known : List Message) (next : ℕ) (within_first : next ≤ length (first_rows known) - 1) where
  pub first_within : next ≤ length (all_rows known)
  first_within = by known within_first
    where
      by : (ks : List Message) → next ≤ length (first_rows ks) - 1 → next ≤ length (all_rows ks)
      by [] at = omega arith
      by (p ∷ ks) at = omega (arith, length-append (rows_of p) (all_rows ks))

  pub first_looked : (more : List Message) → next ≤ length (first_rows (known ++ more)) - 1
  first_looked more = by known within_first
    where
      by : (ks : List Message) → next ≤ length (first_rows ks) - 1 → next ≤ length (first_rows (ks ++ more)) - 1
      by [] at = omega arith
      by (p ∷ ks) at = at

  -- the rows that were popped of the first one stay
  pub popped_looked : (more : List Message) → take next (all_rows (known ++ more)) ≡ take next (all_rows known)
  popped_looked more = ap (take next) (all_rows-append known more) ∙ take-append-le next (all_rows known) (all_rows more) first_within

  -- the same where the more is not named
  module _ (then : List Message) (looked : IsPrefix known then) where
    pub first_then : next ≤ length (first_rows then) - 1
    first_then = subst (λ ks. next ≤ length (first_rows ks) - 1) looked.1 (first_looked looked.0)

    pub popped_then : take next (all_rows then) ≡ take next (all_rows known)
    popped_then = ap (λ ks. take next (all_rows ks)) (sym looked.1) ∙ popped_looked looked.0

  -- where a message is seen, a row of it is left
  pub seen_some : 0 < length known → 0 < length (drop next (all_rows known))
  seen_some = by known within_first
    where
      by : (ks : List Message) → next ≤ length (first_rows ks) - 1 → 0 < length ks → 0 < length (drop next (all_rows ks))
      by [] at some = absurd (omega arith)
      by (p ∷ ks) at some = omega (arith, length-drop next (all_rows (p ∷ ks)), length-append (rows_of p) (all_rows ks), some_rows p)
