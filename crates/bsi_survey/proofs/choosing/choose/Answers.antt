use Rattle.std.proofs.Common.{◌≡◌, ◌<◌, ◌++◌, [], ℕ, List, Vec, Global, All, ap, arith, drop, length, map, subst, ◌+◌, sym, ◌∙◌}
use Rattle.std.proofs.lemmas.List.{length-map}
use Rattle.bsi_survey.specs.Choices.{chosen_indexes, is_wanted, wanted_titles}
use Rattle.bsi_survey.proofs.ChosenIndexes.{chosen_all, chosen_less, chosen_more, indexes_within}
use Rattle.bsi_survey.proofs.Lists.{mapped_at}
use Rattle.bsi_survey.proofs.choosing.choose.Goals as goal
use Rattle.bsi_survey.proofs.choosing.choose.Goals.{else-is_wanted, then-is_wanted+in_ok-push}

-- one title more
pub titles-preserved : goal.titles-preserved
titles-preserved c =
    let seen : Vec ℕ Global → List ℕ = λ title. title.items in
    let titles = map seen c.args.titles.now in
    let wanted = wanted_titles c.args.wanted.now in
    let index = c.titles.index in
    let within : index < length titles = omega (arith, length-map c.args.titles.now seen) in
    let own = mapped_at seen c.args.titles.now index c.index-titles-index.result [] (omega arith) c.index-titles-index.is in
    let test = ap (is_wanted wanted) (own ∙ sym c.as_slice.ensures.value) ∙ sym c.is_wanted.ensures in
    elim c.if-is_wanted.branch [
      | then-is_wanted+in_ok-push w ↦
          subst (λ (is : List ℕ). chosen_indexes wanted 0 titles ≡ is ++ chosen_indexes wanted (index + 1) (drop (index + 1) titles))
          (sym w.in_ok-push.ensures.items ∙ sym (ap (λ (v : Vec ℕ Global). v.items) w.indexes-is))
          (chosen_more wanted titles index c.titles.indexes.items within (test ∙ w.if-is_wanted.true) c.titles.invariant)
      | else-is_wanted w ↦
          subst (λ (is : List ℕ). chosen_indexes wanted 0 titles ≡ is ++ chosen_indexes wanted (index + 1) (drop (index + 1) titles))
          (sym (ap (λ (v : Vec ℕ Global). v.items) w.indexes-is))
          (chosen_less wanted titles index c.titles.indexes.items within (test ∙ w.if-is_wanted.false) c.titles.invariant)
    ]

-- no title is left
pub invariant_of-result : goal.invariant_of-result
invariant_of-result c =
    let seen : Vec ℕ Global → List ℕ = λ title. title.items in
    let titles = map seen c.args.titles.now in
    let within : All (λ (k : ℕ). k < length titles) c.titles.indexes.items =
    subst (All (λ (k : ℕ). k < length titles)) (sym (chosen_all (wanted_titles c.args.wanted.now) titles c.titles.index c.titles.indexes.items (omega (arith, length-map c.args.titles.now seen)) c.titles.invariant))
    (λ k d low. let is = indexes_within (wanted_titles c.args.wanted.now) 0 titles k d low in omega (arith, is)) in
    record { within = λ k d low. let is = within k d low in omega (arith, is, length-map c.args.titles.now seen) }

pub returns-clause-indexes : goal.returns-clause-indexes
returns-clause-indexes c =
    let seen : Vec ℕ Global → List ℕ = λ title. title.items in
    chosen_all (wanted_titles c.args.wanted.now) (map seen c.args.titles.now) c.titles.index c.titles.indexes.items (omega (arith, length-map c.args.titles.now seen)) c.titles.invariant
