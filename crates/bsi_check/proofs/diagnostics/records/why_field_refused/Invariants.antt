use Rattle.std.proofs.Common.{◌≡◌, drop}
use Rattle.csv.specs.Records.{fields_of}
use Rattle.bsi_check.specs.Judges.{first_refusing}
use Rattle.bsi_check.proofs.diagnostics.records.why_field_refused.Given as goal

-- the fields so far are accepted
abbrev pub invariant-fields : goal.invariant-fields
invariant-fields g l =
    let judge = g.F.Explains.judge l.fn.format in
    let header = fields_of l.fn.header in
    let fields = fields_of l.fn.fields in
    first_refusing judge header fields ≡ first_refusing judge (drop l.index header) (drop l.index fields)
