use Rattle.std.proofs.Common.{◌∷◌, ◌++◌, [], ap, sym, ◌∙◌, arith}
use Rattle.std.proofs.lemmas.List.{take_all}
use Rattle.csv.specs.Records.{fields_of}
use Rattle.bsi_syntax.specs.Reading.{texts}
use Rattle.bsi_syntax.proofs.Fields.{take_on, texts_more}
use Rattle.bsi_syntax.proofs.leading_fields.lend_fields.Goals as goal

pub fields-preserved : goal.fields-preserved
fields-preserved c =
    let fields = fields_of c.args.fields.now in
    ap texts c.in_ok-push.ensures.items ∙ texts_more c.fields.lent.items c.field.result
    ∙ ap (λ texts. texts ++ c.field.result.now ∷ []) c.fields.invariant
    ∙ sym (take_on fields c.fields.index c.field.result.now (c.field.ensures.there (omega (arith, c.len-index-end.ensures))))

pub returns : goal.returns
returns c =
    c.fields.invariant ∙ take_all c.fields.index (fields_of c.args.fields.now) (omega (arith, c.len-index-end.ensures, c.fields-test.false))
