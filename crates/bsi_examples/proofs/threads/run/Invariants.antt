use Rattle.std.proofs.Common.{length}
use Rattle.bsi_library.specs.Table.{no_rows}
use Rattle.bsi_examples.proofs.threads.run.Given as goal

-- the system whose history was just made
abbrev pub ghosts-run_in : goal.ghosts-run_in
ghosts-run_in g a = record { book = a.history.book; about = no_rows a.schema (length a.capacities.items) 1000 }
