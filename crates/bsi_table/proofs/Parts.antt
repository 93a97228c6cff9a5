-- How many parts a predicate has.
use Rattle.std.proofs.Common.{ℕ, ◌+◌}
use Rattle.bsi_rows.specs.declared.query.Pred.{Pred, All, Compare, Columns, Null, Both', Either', Not'}

abbrev pub parts_of : Pred → ℕ
parts_of All = 1
parts_of (Compare c op n) = 1
parts_of (Columns a op b) = 1
parts_of (Null c) = 1
parts_of (Both' p first q second) = parts_of first + parts_of second + 1
parts_of (Either' p first q second) = parts_of first + parts_of second + 1
parts_of (Not' p pred) = parts_of pred + 1
