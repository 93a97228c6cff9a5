use Rattle.std.proofs.Common.{◌≡◌, length, sym, ◌∙◌, arith}
use Rattle.csv.specs.Records.{fields_of}
use Rattle.bsi_syntax.proofs.Fields.{last_field}
use Rattle.bsi_syntax.proofs.setups.read_only_number.Goals as goal

-- the number is that of the only field after the word
pub returns-clause-value : goal.returns-clause-value
returns-clause-value c =
    let two : length (fields_of c.args.fields.now) ≡ 2 = sym c.len.ensures ∙ c.if-len-ne2.false in
    rw (last_field (fields_of c.args.fields.now) 1 c.field.result.now (c.field.ensures.there (omega (arith, two))) (omega (arith, two))) c.read_between.ensures.value
