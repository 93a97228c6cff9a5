use Rattle.std.proofs.Common.{◌≡◌, ◌+◌, [], count_by, get_or, take}
use Rattle.std.specs.Str.{bytes_eq}
use Rattle.csv.specs.Records.{fields_of}
use Rattle.bsi_logical.proofs.titles.number_in.Given as goal

-- one more than how many fields so far are the same
abbrev pub invariant-fields : goal.invariant-fields
invariant-fields l = l.number ≡ count_by (λ other. bytes_eq other (get_or (fields_of l.fn.header) l.fn.index [])) (take l.other (fields_of l.fn.header)) + 1
