use Rattle.std.proofs.Common.{◌≡◌, take, count_by}
use Rattle.std.specs.Str.{bytes_eq}
use Rattle.csv.specs.Records.{fields_of}
use Rattle.bsi_input.proofs.header.count_fields_named.Given as goal

-- so many of the fields so far are the name
abbrev pub invariant-fields : goal.invariant-fields
invariant-fields l = l.count ≡ count_by (λ field. bytes_eq field l.fn.name) (take l.index (fields_of l.fn.header))
