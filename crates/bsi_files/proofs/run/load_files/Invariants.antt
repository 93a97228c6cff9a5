use Rattle.std.proofs.Common.{length}
use Rattle.bsi_rows.specs.Table.{no_rows}
use Rattle.bsi_files.proofs.run.load_files.Given as goal

-- the system whose history was just made
abbrev pub ghosts-load_with_system : goal.ghosts-load_with_system
ghosts-load_with_system g a = record { book = a.history.book; about = no_rows a.schema (length a.capacities.items) a.limit }
