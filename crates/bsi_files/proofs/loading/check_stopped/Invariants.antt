use Rattle.std.proofs.Common.{◌≡◌, false}
use Rattle.std.specs.List.{AllWithin}
use Rattle.bsi_files.proofs.loading.check_stopped.Given as goal

-- so it is of those before
abbrev pub invariant-files : goal.invariant-files
invariant-files l = AllWithin (λ fed. fed.stopped ≡ false) l.fed 0 l.file
