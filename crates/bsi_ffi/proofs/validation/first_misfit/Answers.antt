use Rattle.std.proofs.Common.{◌≡◌, ◌<◌, ◌≤◌, ◌+◌, ℕ, Bool, true, false, List, length, map, None, sym, ap, ◌∙◌, arith, get_or, below_more, subst, inl, inr}
use Rattle.std.proofs.Math.Nat.{eq-or-lt_of_le}
use Rattle.std.proofs.lemmas.List.{get_or-map, length-map}
use Rattle.bsi_schema.specs.Limits.{limits_of}
use Rattle.bsi_schema.specs.declared.limits.Limits.{Limits}
use Rattle.bsi_schema.specs.Columns.{column_at, is_between, is_accepted_by, NamedColumn}
use Rattle.bsi_rows.specs.Rows.{entry_at}
use Rattle.bsi_schema.proofs.Fitting.{fits-each, limits_at, misfit-at}
use Rattle.bsi_ffi.specs.Columns.{input_entry, row_of, IsFirstRefusing}
use Rattle.bsi_ffi.specs.declared.columns.ColumnInput.{ColumnInput}
use Rattle.bsi_ffi.specs.declared.validation.Misfit.{Misfit}
use Rattle.bsi_ffi.proofs.validation.first_misfit.Goals as goal

-- whether a column takes the entry of a row
taken_at : (declared : List NamedColumn) (columns : List ColumnInput) (limits : List Limits) → limits ≡ map limits_of declared
    → (k r : ℕ) (l : Limits) (g : ColumnInput) (accepted : Bool) → k < length declared → k < length columns
    → is_between (get_or limits k l).least (get_or limits k l).size (input_entry r (get_or columns k g)) ≡ accepted
    → is_accepted_by (column_at declared k) (entry_at (row_of columns r) k) ≡ accepted
taken_at declared columns limits are k r l g accepted here within is =
    ap (λ entry. is_accepted_by (column_at declared k) entry) (get_or-map (input_entry r) columns k g None within)
    ∙ sym (limits_at declared limits are k l (input_entry r (get_or columns k g)) here) ∙ is

-- what the first columns have first_of
record IsSoFar (declared : List NamedColumn) (columns : List ColumnInput) (rows n : ℕ) (misfit : Misfit) : Type 0 where
  within : misfit.row ≤ rows
  accepted : (k : ℕ) → k < n → (r : ℕ) → r < misfit.row → is_accepted_by (column_at declared k) (entry_at (row_of columns r) k) ≡ true
  before : misfit.row < rows → misfit.column < n
  none : misfit.row ≡ rows → misfit.column ≡ 0
  refused : misfit.row < rows → IsFirstRefusing declared (row_of columns misfit.row) misfit.column

module _ (declared : List NamedColumn) (columns : List ColumnInput) (rows n : ℕ) (misfit : Misfit) (so : IsSoFar declared columns rows n misfit)
    (row : ℕ) (within : row ≤ misfit.row)
    (accepted : (r : ℕ) → r < row → is_accepted_by (column_at declared n) (entry_at (row_of columns r) n) ≡ true)
    (refused : row < misfit.row → is_accepted_by (column_at declared n) (entry_at (row_of columns row) n) ≡ false) where
  each : (k : ℕ) → k < n + 1 → (r : ℕ) → r < row → is_accepted_by (column_at declared k) (entry_at (row_of columns r) k) ≡ true
  each = below_more _ _ (λ k before r at. so.accepted k before r (omega (arith, at, within))) accepted

  -- of one column more
  one_more : (next : Misfit) → (misfit.row ≤ row → next ≡ misfit) → (row < misfit.row → next ≡ record { row = row; column = n })
      → IsSoFar declared columns rows (n + 1) next
  one_more next unchanged replaced = elim (eq-or-lt_of_le within) [
    | inl same ↦ subst (IsSoFar declared columns rows (n + 1)) (sym (unchanged (omega (arith, same)))) (record {
      within = so.within;
      accepted = λ k below r at. each k below r (omega (arith, at, same));
      before = λ is_row. omega (arith, so.before is_row);
      none = so.none;
      refused = so.refused;
    })
    | inr earlier ↦ subst (IsSoFar declared columns rows (n + 1)) (sym (replaced earlier)) (record {
      within = omega (arith, within, so.within);
      accepted = each;
      before = λ is_row. omega arith;
      none = λ all. absurd (omega (arith, all, earlier, so.within));
      refused = λ is_row. record { before = λ k below. so.accepted k below row earlier; refuses = refused earlier };
    })
  ]

pub columns-preserved : goal.columns-preserved
columns-preserved c =
    let declared = c.args.schema.now.columns in
    let columns = c.args.columns.now in
    let limits = c.limits-limits.result.now in
    let are = c.limits-limits.ensures.limits in
    let n = c.columns.c in
    let next = c.first_refused-row in
    let within : n < length columns = omega (arith, c.columns-test.true) in
    let here : n < length declared = omega (arith, within, c.requires.many) in
    let so : IsSoFar declared columns c.args.rows n c.columns.misfit = record {
      within = c.columns.invariant.within;
      accepted = c.columns.invariant.accepted;
      before = c.columns.invariant.before;
      none = c.columns.invariant.none;
      refused = c.columns.invariant.refused;
    } in
    let more = one_more declared columns c.args.rows n c.columns.misfit so next.result next.ensures.within
    (λ r at. taken_at declared columns limits are n r _ _ true here within (next.ensures.accepted r at))
    (λ earlier. taken_at declared columns limits are n next.result _ _ false here within (next.ensures.refused earlier))
    c.earlier-misfit.result c.earlier-misfit.ensures.unchanged c.earlier-misfit.ensures.replaced in
    record { within = more.within; accepted = more.accepted; before = more.before; none = more.none; refused = more.refused }

pub returns-clause-accepted : goal.returns-clause-accepted
returns-clause-accepted c = λ r before.
    let declared = c.args.schema.now.columns in
    let columns = c.args.columns.now in
    fits-each declared (row_of columns r) (length-map columns (input_entry r) ∙ c.requires.many)
    (λ k within. c.columns.invariant.accepted k (omega (arith, within, c.requires.many, c.columns-test.false)) r before)

-- a row that a column does not take does not fit
pub returns-clause-misfit : goal.returns-clause-misfit
returns-clause-misfit c = λ is_row.
    let declared = c.args.schema.now.columns in
    let m = c.columns.misfit in
    let here : m.column < length declared = omega (arith, c.columns.invariant.before is_row, c.requires.many, c.columns.invariant.before is_row) in
    sym (misfit-at declared (row_of c.args.columns.now m.row) m.column here (c.columns.invariant.refused is_row).refuses)
