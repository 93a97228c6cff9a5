use Rattle.std.proofs.Common.{◌≡◌, length, sym, ◌∙◌, ap, arith}
use Rattle.csv.specs.Records.{fields_of}
use Rattle.bsi_syntax.specs.Events.{only_feeder}
use Rattle.bsi_syntax.proofs.Events.{not_alone}
use Rattle.bsi_syntax.proofs.Fields.{last_field}
use Rattle.bsi_syntax.proofs.records.read_only_feeder.Goals as goal

-- no field alone after the word
pub returns-then-len-ne2 : goal.returns-then-len-ne2
returns-then-len-ne2 c = sym (not_alone (fields_of c.args.fields.now) (λ two. c.if-len-ne2.true (c.len.ensures ∙ two)))

pub returns : goal.returns
returns c =
    let fields = fields_of c.args.fields.now in
    let two : length fields ≡ 2 = sym c.len.ensures ∙ c.if-len-ne2.false in
    c.read_feeder.ensures ∙ sym (ap only_feeder (last_field fields 1 c.field.result.now (c.field.ensures.there (omega (arith, two))) (omega (arith, two))))
