use Rattle.std.proofs.Common.{◌≡◌, ◌≤◌, ◌*◌, ◌^◌, map, sum, take}
use Rattle.bsi_check.specs.Reports.{good_count}
use Rattle.bsi_check.proofs.row_files.count_good.Given as goal

-- the good records of the files so far
abbrev pub invariant-files : goal.invariant-files
invariant-files l = record {
  good : l.good ≡ sum (map good_count (take l.file-index l.files));
  few : l.good ≤ l.file-index * 2 ^ 64;
}
