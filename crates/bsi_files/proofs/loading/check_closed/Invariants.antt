use Rattle.std.proofs.Common.{◌≡◌, true}
use Rattle.std.specs.List.{AllWithin}
use Rattle.bsi_files.proofs.loading.check_closed.Given as goal

-- so it is of those before
abbrev pub invariant-files : goal.invariant-files
invariant-files l = AllWithin (λ fed. fed.closed ≡ true) l.fed 0 l.file
