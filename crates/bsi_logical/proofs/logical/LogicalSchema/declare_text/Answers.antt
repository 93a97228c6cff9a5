use Rattle.std.proofs.Common.{◌≡◌, None, Some, ap, refl, subst, sym, ◌∙◌}
use Rattle.bsi_schema.specs.Columns.{position_of}
use Rattle.bsi_syntax.specs.Reading.{texts}
use Rattle.bsi_logical.specs.Logical.{Logical}
use Rattle.bsi_logical.specs.Records.{pair_of, Does}
use Rattle.bsi_logical.proofs.Building.{text_at_column, text_nowhere}
use Rattle.bsi_logical.proofs.logical.LogicalSchema.declare_text.Goals as goal

pub returns-in-Some-find : goal.returns-in-Some-find
returns-in-Some-find c =
    let l = c.args.self.now in
    let fields = texts c.args.fields.now in
    let name = c.in-Some.name.now in
    let pair : Some (name, c.in-Some.text.now) ≡ pair_of fields = c.in-Some.ensures in
    let lowered : Some c.in-Some-find.c ≡ position_of l.schema.columns name =
    sym c.in-Some-find.is ∙ c.find.ensures ∙ ap (λ (s : Logical). position_of s.schema.columns name) c.self.view_is in
    subst (λ said. Does said l c.add_text.new.self c.add_text.result) (sym (text_at_column l fields name c.in-Some.text.now c.in-Some-find.c pair lowered)) c.add_text.ensures

-- no column has the name
pub returns-in-None : goal.returns-in-None
returns-in-None c =
    let l = c.args.self.now in
    let fields = texts c.args.fields.now in
    let name = c.in-Some.name.now in
    let pair : Some (name, c.in-Some.text.now) ≡ pair_of fields = c.in-Some.ensures in
    let lowered : None ≡ position_of l.schema.columns name =
    sym c.in-None.is ∙ c.find.ensures ∙ ap (λ (s : Logical). position_of s.schema.columns name) c.self.view_is in
    (text_nowhere l fields name c.in-Some.text.now 0 pair lowered, refl)
