use Rattle.std.proofs.Common.{◌≡◌, ◌++◌, replicate}
use Rattle.bsi_system.proofs.opening.make_analysts.Given as goal

-- so many places were added
abbrev pub invariant-analysts : goal.invariant-analysts
invariant-analysts g l = l.analysts.items ≡ l.fn.analysts.items ++ replicate l.added l.loader.published
