-- A row fits where it has as many entries as there are columns, and each column takes its entry.
use Rattle.std.proofs.Common.{◌≡◌, ℕ, ◌<◌, zero, suc, Bool, true, false, ◌&&◌, List, [], ◌∷◌, length, drop, map, get_or, Option, Some, None, ℤ, pos, ◌+ℤ◌, ◌≤ℤ◌, ◌<ℤ◌, refl, sym, ap, ap₂, ◌∙◌, true≢false, arith}
use Rattle.std.specs.Prelude.{int_le, int_lt}
use Rattle.std.specs.List.{list_all, zip}
use Rattle.std.proofs.lemmas.Int.{ints}
use Rattle.std.proofs.lemmas.List.{get_or-map, length-map}
use Rattle.bsi_schema.specs.Columns.{column_at, entry_at, fits, is_between, is_accepted_by, no_column, size_in, NamedColumn}
use Rattle.bsi_digits.specs.Digits.{max_end}
use Rattle.bsi_digits.specs.Signed.{least_i64, IsI64}
use Rattle.bsi_schema.specs.Limits.{limits_of}
use Rattle.bsi_schema.specs.declared.limits.Limits.{Limits}

-- both are true
both : (a b : Bool) → a && b ≡ true → (a ≡ true) × (b ≡ true)
both true true e = (refl, refl)
both true false e = (refl, e)
both false b e = absurd (true≢false (sym e))

pub fits-length : (columns : List NamedColumn) (row : List (Option ℤ)) → fits columns row ≡ true → length row ≡ length columns
fits-length [] [] e = refl
fits-length [] (entry ∷ row) e = absurd (true≢false (sym e))
fits-length (column ∷ columns) [] e = absurd (true≢false (sym e))
fits-length (column ∷ columns) (entry ∷ row) e =
    let rest = fits-length columns row (both (is_accepted_by column entry) (fits columns row) e).1 in ap suc rest

pub fits-at : (columns : List NamedColumn) (row : List (Option ℤ)) (c : ℕ) → fits columns row ≡ true → c < length columns
    → is_accepted_by (column_at columns c) (entry_at row c) ≡ true
fits-at [] row c e within = absurd (omega arith)
fits-at (column ∷ columns) [] c e within = absurd (true≢false (sym e))
fits-at (column ∷ columns) (entry ∷ row) zero e within = (both (is_accepted_by column entry) (fits columns row) e).0
fits-at (column ∷ columns) (entry ∷ row) (suc c) e within =
    fits-at columns row c (both (is_accepted_by column entry) (fits columns row) e).1 (omega arith)

pub fits-each : (columns : List NamedColumn) (row : List (Option ℤ)) → length row ≡ length columns
    → ((c : ℕ) → c < length columns → is_accepted_by (column_at columns c) (entry_at row c) ≡ true) → fits columns row ≡ true
fits-each [] [] long each = refl
fits-each [] (entry ∷ row) long each = absurd (omega arith)
fits-each (column ∷ columns) [] long each = absurd (omega arith)
fits-each (column ∷ columns) (entry ∷ row) long each =
    ap₂ (λ a b. a && b) (each 0 (omega arith)) (fits-each columns row (omega arith) (λ c within. each (suc c) (omega arith)))

-- two tests of a number
pub within : (low x high : ℤ) → int_le low x && int_lt x high ≡ true → (low ≤ℤ x) × (x <ℤ high)
within low x high both = (grind (arith, ints), grind (arith, ints))

-- an entry that a column takes is a null or a number of 64 bits
pub accepted_small : (column : NamedColumn) → least_i64 ≤ℤ column.offset → (column.offset +ℤ pos (size_in column.form)) ≤ℤ pos max_end
    → (entry : Option ℤ) → is_accepted_by column entry ≡ true → IsI64 entry
accepted_small column low below None accepted = tt
accepted_small column low below (Some x) accepted =
    let range = within column.offset x (column.offset +ℤ pos (size_in column.form)) accepted in
    (omega (arith, ints, range.0, low), omega (arith, ints, range.1, below))

-- a row of the same length fits where each column takes its entry
pub all_accepted : (columns : List NamedColumn) (row : List (Option ℤ)) → length row ≡ length columns
    → list_all (λ (p : Limits × Option ℤ). is_between p.0.least p.0.size p.1) (zip (map limits_of columns) row) ≡ fits columns row
all_accepted [] [] long = refl
all_accepted [] (entry ∷ row) long = absurd (omega arith)
all_accepted (column ∷ columns) [] long = absurd (omega arith)
all_accepted (column ∷ columns) (entry ∷ row) long = ap (λ b. is_accepted_by column entry && b) (all_accepted columns row (omega arith))

-- a row of another length does not fit
pub misfit-length : (columns : List NamedColumn) (row : List (Option ℤ)) → (length row ≡ length columns → ⊥) → false ≡ fits columns row
misfit-length columns row other = by (fits columns row) (fits-length columns row)
  where
    by : (b : Bool) → (b ≡ true → length row ≡ length columns) → false ≡ b
    by true long = absurd (other (long refl))
    by false long = refl

-- nor one of which a column does not take its entry
pub misfit-at : (columns : List NamedColumn) (row : List (Option ℤ)) (c : ℕ) → c < length columns
    → is_accepted_by (column_at columns c) (entry_at row c) ≡ false → false ≡ fits columns row
misfit-at columns row c within refused = by (fits columns row) (λ e. fits-at columns row c e within)
  where
    by : (b : Bool) → (b ≡ true → is_accepted_by (column_at columns c) (entry_at row c) ≡ true) → false ≡ b
    by true accepted = absurd (true≢false (sym (accepted refl) ∙ refused))
    by false accepted = refl

-- the limits of column c, where they stand in a list
module _ (columns : List NamedColumn) (limits : List Limits) (are : limits ≡ map limits_of columns) where
  pub limits_long : length limits ≡ length columns
  limits_long = ap length are ∙ length-map columns limits_of

  pub limits_at : (c : ℕ) (d : Limits) (entry : Option ℤ) → c < length columns
      → is_between (get_or limits c d).least (get_or limits c d).size entry ≡ is_accepted_by (column_at columns c) entry
  limits_at c d entry within =
      ap (λ l. is_between (get_or l c d).least (get_or l c d).size entry) are
      ∙ ap (λ l. is_between l.least l.size entry) (get_or-map limits_of columns c no_column d within)

-- columns that take the same numbers take the same rows
pub fits-alike : (first second : List NamedColumn) → map limits_of first ≡ map limits_of second → (row : List (Option ℤ)) → fits first row ≡ fits second row
fits-alike [] [] same row = refl
fits-alike [] (column ∷ second) same row = absurd (omega (arith, ap length same))
fits-alike (column ∷ first) [] same row = absurd (omega (arith, ap length same))
fits-alike (column ∷ first) (other ∷ second) same [] = refl
fits-alike (column ∷ first) (other ∷ second) same (entry ∷ row) =
    let head = ap (λ ls. get_or ls 0 (limits_of column)) same in
    ap₂ (λ (l : Limits) rest. is_between l.least l.size entry && rest) head (fits-alike first second (ap (drop 1) same) row)
