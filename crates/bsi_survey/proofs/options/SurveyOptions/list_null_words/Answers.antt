use Rattle.std.proofs.Common.{◌≡◌, ◌<◌, ◌++◌, ◌∷◌, [], ℕ, List, Vec, Global, append_assoc, ap, ap₂, arith, get_or, length, map, rules, sym, take, ◌∙◌}
use Rattle.std.proofs.lemmas.List.{length-map, map-append, take_more}
use Rattle.bsi_inference.specs.Nulls.{usual_words}
use Rattle.bsi_survey.proofs.Lists.{mapped_at}
use Rattle.bsi_survey.proofs.options.SurveyOptions.list_null_words.Goals as goal

-- one word more
pub nulls-preserved : goal.nulls-preserved
nulls-preserved c =
    let seen : Vec ℕ Global → List ℕ = λ word. word.items in
    let own = c.args.self.now.nulls.items in
    let said = map seen own in
    let i = c.nulls.word-index in
    let lent = c.deref-word-items.ensures.value in
    let low : i < length own = omega (arith, c.nulls-test.true, ap (λ (ws : List (Vec ℕ Global)). length ws) lent) in
    let within : i < length said = omega (arith, low, length-map own seen) in
    let at : c.word-item.result ≡ get_or own i c.word-item.result =
    c.word-item.is ∙ ap (λ (ws : List (Vec ℕ Global)). get_or ws i c.word-item.result) lent in
    let text : c.in_ok-word.word.items ≡ get_or said i [] =
    c.in_ok-word.ensures.items ∙ c.as_slice.ensures.value ∙ sym (mapped_at seen own i c.word-item.result [] low at) in
    let is : c.push.new.self.items ≡ c.nulls.words.items ++ c.in_ok-word.word ∷ [] = search rules in
    ap (map seen) is ∙ map-append seen c.nulls.words.items (c.in_ok-word.word ∷ [])
    ∙ ap₂ (λ (list : List (List ℕ)) (text : List ℕ). list ++ text ∷ []) c.nulls.invariant text
    ∙ append_assoc usual_words (take i said) (get_or said i [] ∷ []) ∙ ap (λ (ws : List (List ℕ)). usual_words ++ ws) (sym (take_more said i [] within))
