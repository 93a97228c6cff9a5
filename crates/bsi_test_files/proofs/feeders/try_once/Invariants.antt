use Rattle.std.proofs.Common.{length}
use Rattle.bsi_rows.specs.Table.{no_rows}
use Rattle.bsi_test_files.proofs.feeders.try_once.Given as goal

-- the system whose history was just made
abbrev pub ghosts-try_in : goal.ghosts-try_in
ghosts-try_in g a = record { book = a.history.book; about = no_rows a.schema (length a.capacities.items) 10 }
