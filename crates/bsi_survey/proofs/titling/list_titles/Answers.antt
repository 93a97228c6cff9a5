use Rattle.std.proofs.Common.{◌≡◌, ◌<◌, ◌++◌, ◌∷◌, [], ℕ, List, Vec, Global, get_or, length, map, ap, ap₂, sym, ◌∙◌, arith, rules}
use Rattle.std.proofs.lemmas.List.{length-map, map-append, take_all, take_more}
use Rattle.bsi_logical.specs.HeaderTitles.{numbered, titles_of}
use Rattle.bsi_logical.proofs.Titling.{get_or-titles_of, length-titles_of}
use Rattle.bsi_survey.proofs.Lists.{mapped_at}
use Rattle.bsi_survey.proofs.titling.list_titles.Goals as goal

-- one title more
pub fields-preserved : goal.fields-preserved
fields-preserved c =
    let seen : Vec ℕ Global → List ℕ = λ field. field.items in
    let header = c.args.header.now in
    let fields = map seen header in
    let titles = titles_of fields in
    let inside : c.fields.index < length fields = omega (arith, length-map header seen) in
    let within : c.fields.index < length titles = omega (arith, length-titles_of fields, inside) in
    let own = mapped_at seen header c.fields.index c.index-header-index.result [] (omega arith) c.index-header-index.is in
    let text : c.in_ok-title.title.items ≡ get_or titles c.fields.index [] =
    c.in_ok-title.ensures ∙ ap₂ numbered (c.as_slice.ensures.value ∙ sym own) c.number_in-number.ensures ∙ sym (get_or-titles_of fields c.fields.index inside) in
    let is : c.push.new.self.items ≡ c.fields.titles.items ++ c.in_ok-title.title ∷ [] = search rules in
    ap (map seen) is ∙ map-append seen c.fields.titles.items (c.in_ok-title.title ∷ [])
    ∙ ap₂ (λ (list : List (List ℕ)) (text : List ℕ). list ++ text ∷ []) c.fields.invariant text
    ∙ sym (take_more titles c.fields.index [] within)

pub returns : goal.returns
returns c =
    let seen : Vec ℕ Global → List ℕ = λ field. field.items in
    let fields = map seen c.args.header.now in
    c.fields.invariant ∙ take_all c.fields.index (titles_of fields) (omega (arith, length-map c.args.header.now seen, length-titles_of fields))
