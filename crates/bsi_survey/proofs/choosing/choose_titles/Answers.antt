use Rattle.std.proofs.Common.{◌≡◌, ◌<◌, ◌++◌, ◌∷◌, [], ℕ, List, Vec, Global, ap, ap₂, arith, get_or, length, map, rules, sym, take, ◌∙◌}
use Rattle.std.proofs.lemmas.List.{map-append, take_all, take_more}
use Rattle.bsi_survey.proofs.Lists.{mapped_at}
use Rattle.bsi_survey.proofs.choosing.choose_titles.Goals as goal

-- the indexes are of titles
pub bounds-titles-index : goal.bounds-titles-index
bounds-titles-index c =
    let lent = c.deref-index-items.ensures.value in
    let is = c.args.choice.now.within c.indexes.index-index 0 (omega (arith, c.indexes-test.true, ap (λ (is : List ℕ). length is) lent)) in
    omega (arith, is, c.requires, ap (λ (is : List ℕ). get_or is c.indexes.index-index 0) lent)

-- one title more
pub indexes-preserved : goal.indexes-preserved
indexes-preserved c =
    let seen : Vec ℕ Global → List ℕ = λ title. title.items in
    let titles = map seen c.args.titles.now in
    let at : ℕ → List ℕ = λ k. get_or titles k [] in
    let indexes = c.args.choice.now.indexes.items in
    let i = c.indexes.index-index in
    let lent = c.deref-index-items.ensures.value in
    let within : i < length indexes = omega (arith, c.indexes-test.true, ap (λ (is : List ℕ). length is) lent) in
    let index = get_or c.deref-index-items.result.now i 0 in
    let same : index ≡ get_or indexes i 0 = ap (λ (is : List ℕ). get_or is i 0) lent in
    let inside = c.args.choice.now.within i 0 within in
    let low : index < length c.args.titles.now = omega (arith, inside, c.requires, same) in
    let own = mapped_at seen c.args.titles.now index c.index-titles-index.result [] low c.index-titles-index.is in
    let text : c.in_ok-title.title.items ≡ at (get_or indexes i 0) =
    c.in_ok-title.ensures.items ∙ c.as_slice.ensures.value ∙ sym own ∙ ap at same in
    let is : c.push.new.self.items ≡ c.indexes.chosen.items ++ c.in_ok-title.title ∷ [] = search rules in
    ap (map seen) is ∙ map-append seen c.indexes.chosen.items (c.in_ok-title.title ∷ [])
    ∙ ap₂ (λ (list : List (List ℕ)) (text : List ℕ). list ++ text ∷ []) c.indexes.invariant text
    ∙ sym (ap (map at) (take_more indexes i 0 within) ∙ map-append at (take i indexes) (get_or indexes i 0 ∷ []))

pub returns : goal.returns
returns c =
    let seen : Vec ℕ Global → List ℕ = λ title. title.items in
    let titles = map seen c.args.titles.now in
    let indexes = c.args.choice.now.indexes.items in
    let lent = c.deref-index-items.ensures.value in
    c.indexes.invariant ∙ ap (map (λ (k : ℕ). get_or titles k [])) (take_all c.indexes.index-index indexes (omega (arith, c.indexes-test.false, ap (λ (is : List ℕ). length is) lent)))
