use Rattle.std.proofs.Common.{◌≡◌, length}
use Rattle.bsi_store.proofs.add_file.open_each.Given as goal

-- a file for each path so far
abbrev pub invariant-files : goal.invariant-files
invariant-files g l = length l.files.items ≡ l.path-index
