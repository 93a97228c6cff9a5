use Rattle.std.proofs.Common.{◌≡◌, ◌≤◌, None, length, map, slice_index_or, take}
use Rattle.std.specs.Prelude.{vec_capacity}
use Rattle.bsi_shift.specs.Shifted.{shifted_entries}
use Rattle.bsi_table.proofs.columns.read_row.Given as goal

-- the entries of the columns so far are read
abbrev pub invariant-columns : goal.invariant-columns
invariant-columns l =
    (l.row.items ≡ map (λ column. slice_index_or (shifted_entries column) l.r None) (take l.column-index l.columns))
    × (length l.columns ≤ vec_capacity l.row)
