use Rattle.std.proofs.Common.{◌≡◌, [], get_or, unwrap_or, Some, ap, sym, ◌∙◌}
use Rattle.csv.specs.Records.{fields_of}
use Rattle.bsi_syntax.proofs.Fields.{at_place, is_there, text_of}
use Rattle.bsi_syntax.proofs.records.field.Goals as goal

pub returns-clause-value : goal.returns-clause-value
returns-clause-value c =
    let fields = fields_of c.args.fields.now in
    ap (λ text. text.now) c.unwrap_or.ensures ∙ text_of (λ text. text.now) c.get.result _ ∙ ap (λ found. unwrap_or found []) c.get.ensures.value
    ∙ sym (at_place fields c.args.index)

pub returns-clause-there : goal.returns-clause-there
returns-clause-there c = λ within.
    let fields = fields_of c.args.fields.now in
    let text : c.unwrap_or.result.now ≡ get_or fields c.args.index [] =
    ap (λ text. text.now) c.unwrap_or.ensures ∙ text_of (λ text. text.now) c.get.result _ ∙ ap (λ found. unwrap_or found []) c.get.ensures.value
    ∙ sym (at_place fields c.args.index) in
    is_there fields c.args.index within ∙ ap Some (sym text)
