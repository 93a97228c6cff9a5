use Rattle.std.proofs.Common.{◌≡◌, ◌++◌, drop}
use Rattle.bsi_check.specs.Reports.{fed_text}
use Rattle.bsi_check.proofs.row_files.write_counts.Given as goal

-- the lines of the files that are left make up the text
abbrev pub invariant-files : goal.invariant-files
invariant-files l = record {
  written : l.fed.items ++ fed_text l.file-index (drop l.file-index l.files) ≡ l.initial.fed.items ++ fed_text 0 l.files;
  number : l.feeder ≡ l.file-index;
}
