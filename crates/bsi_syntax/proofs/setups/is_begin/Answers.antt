use Rattle.std.proofs.Common.{◌≡◌, length, sym, ◌∙◌, arith}
use Rattle.csv.specs.Records.{fields_of}
use Rattle.bsi_syntax.proofs.Fields.{last_field}
use Rattle.bsi_syntax.proofs.setups.is_begin.Goals as goal

-- the word is the only field
pub returns-then-len-eq1 : goal.returns-then-len-eq1
returns-then-len-eq1 c =
    let one : length (fields_of c.args.fields.now) ≡ 1 = sym c.len.ensures ∙ c.if-len-eq1.true in
    rw (last_field (fields_of c.args.fields.now) 0 c.field.result.now (c.field.ensures.there (omega (arith, one))) (omega (arith, one)), ← c.as_slice.ensures) c.eq.ensures
