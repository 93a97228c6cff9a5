-- What stands first in a ring, what is popped out of it, and what a second closing would tell.
use Rattle.std.proofs.Common.{◌≡◌, ℕ, ◌+◌, ◌-◌, ◌<◌, ◌≤◌, List, [], ◌∷◌, ◌++◌, Option, None, Some, All, length, drop, get_or, take, refl, sym, ◌∙◌, subst, ap, ap₂, arith, append_assoc, length-append}
use Rattle.std.specs.Prelude.{option_map, slice_get, IfSome, IsTrue}
use Rattle.std.proofs.Math.Seq.{drop-append-add, take-append-add}
use Rattle.std.proofs.lemmas.List.{append-nil, drop-append-le, drop-drop, drop-take, drop_more, take-append-drop, take-take}
use Rattle.std.proofs.lemmas.List.Elements.{All-contains, All-get_or, Contains-append_right}
use Rattle.std.proofs.lemmas.Option.{get_or_from_slice_get}
use mathlib.Core.List.{IsPrefix}
use Rattle.bsi_schema.specs.Columns.{fits, Declared}
use Rattle.bsi_rows.specs.Rows.{Entries}
use Rattle.bsi_system.specs.declared.message.Message.{Message}
use Rattle.bsi_system.specs.Rings.{all_rows, first_rows, ring_reader, rows_of, with_more_popped, ChannelName, IsMessageFor, IsRingReader, IsWhole, Ring, RingReader}
use Rattle.bsi_system.proofs.Messages.{all_rows-append, parcel_fits, some_rows}

-- where the messages that the closing carried are those that were popped, and then those that are seen, so are the rows
pub whole_rows : (channel : ChannelName) (received known : List Message) (next : ℕ) (carried : Option (List Message)) → IfSome carried (λ sent. received ++ known ≡ sent) → IsWhole (ring_reader channel received known next carried)
whole_rows channel received known next None whole = tt
whole_rows channel received known next (Some sent) whole =
    append_assoc (all_rows received) (take next (all_rows known)) (drop next (all_rows known))
    ∙ (ap (λ rows. all_rows received ++ rows) (take-append-drop next (all_rows known)) ∙ (sym (all_rows-append received known) ∙ ap all_rows whole))

-- where a message that no feeder of the schema sends stands first, the channel is not settled
pub none_carried : (schema : Declared) (received known : List Message) (next : ℕ) (carried : Option (List Message)) (p : Message)
    → IsRingReader schema received known next carried → IsPrefix (p ∷ []) known → ¬ IsMessageFor schema p → carried ≡ None
none_carried schema received known next None p is first other = refl
none_carried schema received known next (Some sent) p is first other =
    let messages : sent ≡ received ++ (p ∷ first.0) = sym is.whole ∙ ap (λ ps. received ++ ps) (sym first.1) in
    absurd (other (All-contains (IsMessageFor schema) (received ++ (p ∷ first.0)) p (subst (All (IsMessageFor schema)) messages is.fitting)
    (Contains-append_right received (p ∷ first.0) p (0, omega arith, refl))))

module _ (known : List Message) (next : ℕ) (within_first : next ≤ length (first_rows known) - 1) (p : Message) (first : IsPrefix (p ∷ []) known) where
  -- a row is left of the message that stands first
  pub row_left : next < length (rows_of p)
  row_left = omega (arith, subst (λ ks. next ≤ length (first_rows ks) - 1) (sym first.1) within_first, some_rows p)

  left_first : drop next (all_rows known) ≡ get_or (rows_of p) next [] ∷ (drop (next + 1) (rows_of p) ++ all_rows first.0)
  left_first =
      ap (λ ks. drop next (all_rows ks)) (sym first.1)
      ∙ (drop-append-le next (rows_of p) (all_rows first.0) (omega (arith, row_left)) ∙ ap (λ rows. rows ++ all_rows first.0) (drop_more (rows_of p) next [] row_left))

  -- it fits where a feeder of the schema sends the message
  pub first_fits : (schema : Declared) → IsMessageFor schema p → (row : Entries) × (rest : List Entries) × (drop next (all_rows known) ≡ row ∷ rest) × IsTrue (fits schema.columns row)
  first_fits schema is = (
    get_or (rows_of p) next [],
    drop (next + 1) (rows_of p) ++ all_rows first.0,
    left_first,
    All-get_or (λ row. IsTrue (fits schema.columns row)) (rows_of p) next [] row_left (parcel_fits schema p is),
  )

  -- it is the row of the message at that within_first
  pub first_at : (row : Entries) → slice_get (rows_of p) next ≡ Some row → IsPrefix (row ∷ []) (drop next (all_rows known))
  first_at row at = (
    drop (next + 1) (rows_of p) ++ all_rows first.0,
    sym (left_first ∙ ap (λ r. r ∷ (drop (next + 1) (rows_of p) ++ all_rows first.0)) (get_or_from_slice_get (rows_of p) next row [] at)),
  )

  -- where none was popped, all of its rows stand first
  pub all_first : next ≡ 0 → IsPrefix (rows_of p) (drop next (all_rows known))
  all_first none = (all_rows first.0, ap all_rows first.1 ∙ ap (λ n. drop n (all_rows known)) (sym none))

-- ---- taking

-- rows that are popped one after another
take_both : (n m : ℕ) (rows : List Entries) → take n rows ++ take m (drop n rows) ≡ take (n + m) rows
take_both n m rows =
    ap₂ (λ xs ys. xs ++ ys) (sym (take-take n (n + m) rows (omega arith))) (sym (drop-take n m rows)) ∙ take-append-drop n (take (n + m) rows)

-- the same messages, of which so many rows more are popped
module _ (channel : ChannelName) (received known : List Message) (next : ℕ) (received_then known_then : List Message) (next_then rows : ℕ) (carried : Option (List Message))
    (messages : received_then ++ known_then ≡ received ++ known) (many : length (all_rows received_then) + next_then ≡ length (all_rows received) + next + rows) where
  popped_take : (r k : List Message) (n : ℕ) → all_rows r ++ take n (all_rows k) ≡ take (length (all_rows r) + n) (all_rows (r ++ k))
  popped_take r k n = sym (ap (take (length (all_rows r) + n)) (all_rows-append r k) ∙ take-append-add (all_rows r) (all_rows k) n)

  seen_drop : (r k : List Message) (n : ℕ) → drop n (all_rows k) ≡ drop (length (all_rows r) + n) (all_rows (r ++ k))
  seen_drop r k n = sym (ap (drop (length (all_rows r) + n)) (all_rows-append r k) ∙ drop-append-add (all_rows r) (all_rows k) n)

  popped_then : all_rows received_then ++ take next_then (all_rows known_then) ≡ (all_rows received ++ take next (all_rows known)) ++ take rows (drop next (all_rows known))
  popped_then =
      popped_take received_then known_then next_then
      ∙ (ap₂ (λ n ps. take n (all_rows ps)) many messages
      ∙ (sym (take_both (length (all_rows received) + next) rows (all_rows (received ++ known)))
      ∙ ap₂ (λ xs ys. xs ++ take rows ys) (sym (popped_take received known next)) (sym (seen_drop received known next))))

  seen_then : drop next_then (all_rows known_then) ≡ drop rows (drop next (all_rows known))
  seen_then =
      seen_drop received_then known_then next_then
      ∙ (ap₂ (λ n ps. drop n (all_rows ps)) many messages
      ∙ (sym (drop-drop rows (length (all_rows received) + next) (all_rows (received ++ known))) ∙ ap (drop rows) (sym (seen_drop received known next))))

  pub popped_view : ring_reader channel received_then known_then next_then carried ≡ with_more_popped (ring_reader channel received known next carried) rows
  popped_view =
      ap₂ (λ (popped seen : List Entries). record { channel = channel; popped = popped; seen = seen; carried = option_map all_rows carried }) popped_then seen_then

-- ---- settling

-- where one closing settled the channel, another one of the ring carries the same messages
pub carried_once : (popped seen popped_then seen_then popped_last seen_last first second : List Message) → popped_then ≡ popped → IsPrefix seen seen_then → popped_last ≡ popped_then → IsPrefix seen_then seen_last
    → popped ++ seen ≡ first → popped_then ++ seen_then ≡ second → popped_last ++ seen_last ≡ first → second ≡ first
carried_once popped seen popped_then seen_then popped_last seen_last first second a p b q all_first all_second all_last = by q.0 q.1
  where
    by : (more : List Message) → seen_then ++ more ≡ seen_last → second ≡ first
    by [] e = sym all_second ∙ ap (λ xs. xs ++ seen_then) (sym b) ∙ ap (λ xs. popped_last ++ xs) (sym (append-nil seen_then) ∙ e) ∙ all_last
    by (x ∷ more) e = absurd (omega (arith, ap length p.1, ap length e, ap length a, ap length b, ap length all_first, ap length all_last, length-append seen p.0, length-append seen_then (x ∷ more), length-append popped seen, length-append popped_last seen_last))

-- a channel of the same ring, of which nothing was popped, and whose closing carried these rows
pub carried_view : (old : RingReader) (ring before : Ring) (schema : Declared) (popped seen : List Entries) (carried : Option (List Entries)) (rows : List Entries)
    → ring ≡ before → record { ring = before; schema = schema } ≡ old.channel → popped ≡ old.popped → carried ≡ Some rows
    → record { channel = record { ring = ring; schema = schema }; popped = popped; seen = seen; carried = carried } ≡ record old { carried = Some rows; seen = seen }
carried_view old ring before schema popped seen carried rows same channel unchanged is =
    ap (λ (r : Ring). record { channel = record { ring = r; schema = schema }; popped = popped; seen = seen; carried = carried }) same
    ∙ ap (λ (l : ChannelName). record { channel = l; popped = popped; seen = seen; carried = carried }) channel
    ∙ ap (λ (t : List Entries). record { channel = old.channel; popped = t; seen = seen; carried = carried }) unchanged
    ∙ ap (λ (o : Option (List Entries)). record { channel = old.channel; popped = old.popped; seen = seen; carried = o }) is
