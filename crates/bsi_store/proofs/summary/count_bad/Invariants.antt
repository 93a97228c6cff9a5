use Rattle.std.proofs.Common.{◌≡◌, map, take}
use Rattle.bsi_answers.specs.RowFiles.{fed_counts}
use Rattle.bsi_store.specs.Saving.{bad_total}
use Rattle.bsi_store.proofs.summary.count_bad.Given as goal

-- the bad records so far
abbrev pub invariant-files : goal.invariant-files
invariant-files l = l.bad ≡ bad_total (map fed_counts (take l.counts-index l.fn.fed))
