use Rattle.std.proofs.Common.{◌≡◌, count_by, take}
use Rattle.std.specs.Str.{bytes_eq}
use Rattle.csv.specs.Records.{fields_of}
use Rattle.bsi_logical.specs.HeaderTitles.{titles_of}
use Rattle.bsi_logical.proofs.titles.count_titled.Given as goal

-- so many of the titles so far are this one
abbrev pub invariant-fields : goal.invariant-fields
invariant-fields l = l.count ≡ count_by (λ other. bytes_eq other l.fn.title) (take l.index (titles_of (fields_of l.fn.header)))
