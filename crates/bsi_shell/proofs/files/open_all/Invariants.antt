use Rattle.std.proofs.Common.{◌≡◌, length}
use Rattle.bsi_shell.proofs.files.open_all.Given as goal

-- as many files are open as paths were passed
abbrev pub invariant-loop-path : goal.invariant-loop-path
invariant-loop-path g l = length l.rows.items ≡ l.path-index
