-- The fields of a record of a row file of kinds, read as the entries of a row, from the first column to the last.
use Rattle.std.proofs.Common.{◌≡◌, ℕ, ◌+◌, ◌<◌, true, if◌then◌else◌, List, [], ◌∷◌, ◌++◌, length, drop, get_or, Option, Some, None, option_map, option_and_then, refl, sym, ap, ◌∙◌, arith, below_more, ℤ}
use Rattle.std.proofs.lemmas.List.{append-nil, append_assoc, at_drop_all, at_drop_more, get_or_append_left, length-append}
use Rattle.std.proofs.Math.Seq.{get_or-append_seam}
use Rattle.bsi_schema.specs.Columns.{column_at, entry_at, fits, is_accepted_by}
use Rattle.bsi_schema.proofs.Fitting.{fits-each}
use Rattle.bsi_rows.specs.Rows.{Entries}
use Rattle.bsi_syntax.proofs.Values.{behind}
use Rattle.bsi_rows.specs.Fields.{Field}
use Rattle.bsi_input.specs.Formats.{fitting}
use Rattle.bsi_input.proofs.Layouts.{misfit, taken_not, taken_value}
use Rattle.bsi_logical.specs.Logical.{Logical}
use Rattle.bsi_logical.specs.LogicalRows.{accepted_entry, entries_from, entry_of}

behind_next : {X : Type 0} (read : List X) (x : X) (later : Option (List X)) → behind read (option_map (λ more. x ∷ more) later) ≡ behind (read ++ x ∷ []) later
behind_next read x None = refl
behind_next read x (Some more) = ap Some (sym (append_assoc read (x ∷ []) more))

-- so many of the fields were read as entries that their columns accept
pub record IsRead (l : Logical) (fields : List Field) (i : ℕ) (entries : Entries) : Type 0 where
  pub so_far : entries_from l 0 fields ≡ behind entries (entries_from l i (drop i fields))
  pub long : length entries ≡ i
  pub accepted : (k : ℕ) → k < i → is_accepted_by (column_at l.schema.columns k) (entry_at entries k) ≡ true

-- none, at first
pub none_read : (l : Logical) (fields : List Field) → IsRead l fields 0 []
none_read l fields = record { so_far = by (entries_from l 0 fields); long = refl; accepted = λ k below. absurd (omega (arith, below)) }
  where
    by : (later : Option Entries) → later ≡ behind [] later
    by None = refl
    by (Some more) = refl

module _ (l : Logical) (fields : List Field) (i : ℕ) (entries : Entries) (many : length fields ≡ length l.schema.columns) (read : IsRead l fields i entries) where
  abbrev found : Option (Option ℤ)
  found = entry_of l i (get_or fields i [])

  -- what is left begins with this field
  step : (entry : Option (Option ℤ)) → i < length l.schema.columns → found ≡ entry
      → entries_from l i (drop i fields) ≡ option_and_then (λ e. option_map (λ more. e ∷ more) (entries_from l (i + 1) (drop (i + 1) fields))) entry
  unfolding entries_from
  step entry within is =
      at_drop_more (entries_from l i) fields i [] (omega (arith, within, many))
      ∙ ap (λ o. option_and_then (λ e. option_map (λ more. e ∷ more) (entries_from l (i + 1) (drop (i + 1) fields))) o) is

  -- one more
  next : (entry : Option ℤ) → i < length l.schema.columns → found ≡ Some entry
      → entries_from l 0 fields ≡ behind (entries ++ entry ∷ []) (entries_from l (i + 1) (drop (i + 1) fields))
  next entry within is =
      read.so_far ∙ ap (behind entries) (step (Some entry) within is) ∙ behind_next entries entry (entries_from l (i + 1) (drop (i + 1) fields))

  pub entry_read : (entry : Option ℤ) → i < length l.schema.columns → accepted_entry (column_at l.schema.columns i) found ≡ Some entry
      → IsRead l fields (i + 1) (entries ++ entry ∷ [])
  entry_read entry within this =
      let is = taken_value (column_at l.schema.columns i) found entry this in
      record {
        so_far = next entry within is.0;
        long = length-append {A = Option ℤ} entries (entry ∷ []) ∙ ap (λ n. n + 1) read.long;
        accepted = below_more _ _
            (λ k below. ap (is_accepted_by (column_at l.schema.columns k)) (get_or_append_left entries (entry ∷ []) None k (omega (arith, below, read.long))) ∙ read.accepted k below)
            (ap (is_accepted_by (column_at l.schema.columns i))
            (ap (λ n. entry_at (entries ++ entry ∷ []) n) (sym read.long) ∙ get_or-append_seam entries entry [] None)
            ∙ is.1);
      }

  -- one that spells nothing, or that its column does not accept
  pub entry_stop : i < length l.schema.columns → accepted_entry (column_at l.schema.columns i) found ≡ None
      → None ≡ fitting l.schema (entries_from l 0 fields)
  entry_stop within this = by found refl this
    where
      by : (o : Option (Option ℤ)) → found ≡ o → accepted_entry (column_at l.schema.columns i) o ≡ None → None ≡ fitting l.schema (entries_from l 0 fields)
      by None is none = sym (ap (fitting l.schema) (read.so_far ∙ ap (behind entries) (step None within is)))
      by (Some value) is none =
          misfit l.schema entries value i _ read.long within (taken_not (column_at l.schema.columns i) value none)
          ∙ sym (ap (fitting l.schema) (next value within is))

  -- all
  pub entries_fit : i ≡ length l.schema.columns → fits l.schema.columns entries ≡ true
  entries_fit all = fits-each l.schema.columns entries (read.long ∙ all) (λ k within. read.accepted k (omega (arith, within, all)))

  pub entries_done : i ≡ length l.schema.columns → Some entries ≡ fitting l.schema (entries_from l 0 fields)
  unfolding entries_from
  entries_done all =
      ap (λ b. if b then Some entries else None) (sym (entries_fit all))
      ∙ ap (fitting l.schema) (sym (read.so_far ∙ ap (behind entries) (at_drop_all (entries_from l i) fields i (omega (arith, all, many))) ∙ ap Some (append-nil entries)))
