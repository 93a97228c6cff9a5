use Rattle.std.proofs.Common.{◌≡◌, ℕ, List, ◌∷◌, ◌+◌, true, false, length, take, refl, sym, ap, ◌∙◌, rules, tests, arith}
use Rattle.std.specs.List.{prefix_len}
use Rattle.std.specs.Option.{unwrap_or}
use Rattle.std.proofs.lemmas.List.{take_min}
use Rattle.std.proofs.lemmas.Iterator.{index_from_first, IsFirst-from_position, YieldsList-from_slice}
use Rattle.bsi_ffi.specs.Columns.{has_rows, row_count}
use Rattle.bsi_ffi.specs.declared.columns.ColumnInput.{ColumnInput}
use Rattle.bsi_ffi.proofs.columns.first_unlike.Goals as goal

-- a column that does not pass ends the count, and one that does adds one to it
stops : (rows : ℕ) (column : ColumnInput) (rest : List ColumnInput) → has_rows rows column ≡ false → prefix_len (has_rows rows) (column ∷ rest) ≡ 0
stops rows column rest fails = search (rules, fails)

goes_on : (rows : ℕ) (column : ColumnInput) (rest : List ColumnInput) → has_rows rows column ≡ true
    → prefix_len (has_rows rows) (column ∷ rest) ≡ prefix_len (has_rows rows) rest + 1
goes_on rows column rest passes = grind (rules, arith, passes)

pub returns : goal.returns
returns c =
    let columns = c.args.columns.now in
    let rows = row_count columns in
    let expected : List ColumnInput = take c.args.count columns in
    let is_expected : take c.min.result columns ≡ expected = ap (λ n. take n columns) c.min.ensures ∙ take_min c.args.count columns in
    let first = IsFirst-from_position _ _ _ (λ x. has_rows rows x ≡ false) (λ x. has_rows rows x ≡ true) c.position-unlike.ensures.ran
    (YieldsList-from_slice expected (c.iter.ensures.rest ∙ is_expected)) (λ x q k. search (rules, tests)) (λ x q k. search (rules, tests)) in
    let counted = index_from_first (prefix_len (has_rows rows)) (λ x. has_rows rows x ≡ false) (λ x. has_rows rows x ≡ true) refl (stops rows) (goes_on rows)
    expected c.position-unlike.result first in
    c.unwrap_or.ensures ∙ ap (λ (xs : List ColumnInput). unwrap_or c.position-unlike.result (length xs)) is_expected ∙ sym counted
