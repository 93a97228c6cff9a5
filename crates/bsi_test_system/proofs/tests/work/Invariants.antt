use Rattle.std.proofs.Common.{length}
use Rattle.bsi_rows.specs.Table.{no_rows}
use Rattle.bsi_test_system.proofs.tests.work.Given as goal

-- the system whose history was just made
abbrev pub ghosts-work_in : goal.ghosts-work_in
ghosts-work_in g a = record { book = a.history.book; about = no_rows a.schema (length a.capacities.items) a.limit }
