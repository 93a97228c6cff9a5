use Rattle.std.proofs.Common.{◌≡◌, ◌<◌, ◌++◌, ◌∷◌, [], ℕ, List, Vec, Global, get_or, length, map, ap, ap₂, sym, ◌∙◌, arith, rules}
use Rattle.std.proofs.lemmas.List.{map-append, take_all, take_more}
use Rattle.csv.specs.Records.{fields_of}
use Rattle.bsi_survey.proofs.survey.list_fields.Goals as goal

-- one field more
pub fields-preserved : goal.fields-preserved
fields-preserved c =
    let seen : Vec ℕ Global → List ℕ = λ field. field.items in
    let all = fields_of c.args.fields.now in
    let within : c.fields.index < length all = omega arith in
    let text : c.in_ok-text.text.items ≡ get_or all c.fields.index [] = search rules in
    let is : c.push.new.self.items ≡ c.fields.list.items ++ c.in_ok-text.text ∷ [] = search rules in
    ap (map seen) is ∙ map-append seen c.fields.list.items (c.in_ok-text.text ∷ [])
    ∙ ap₂ (λ (list : List (List ℕ)) (text : List ℕ). list ++ text ∷ []) c.fields.invariant text
    ∙ sym (take_more all c.fields.index [] within)

pub returns : goal.returns
returns c = c.fields.invariant ∙ take_all c.fields.index (fields_of c.args.fields.now) (omega arith)
