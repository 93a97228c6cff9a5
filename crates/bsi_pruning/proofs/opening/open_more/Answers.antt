use Rattle.std.proofs.Common.{◌≡◌, List, ℕ, length, map, rules, subst, sym, ◌∙◌}
use Rattle.std.specs.Prelude.{All}
use Rattle.csv.specs.Records.{fields_of}
use Rattle.bsi_answers.proofs.Passing.{if_ok}
use Rattle.bsi_projection.specs.Words.{AreChosen}
use Rattle.bsi_pruning.proofs.Answered.{all_still, unchanged}
use Rattle.bsi_pruning.proofs.opening.open_more.Goals as goal

pub returns-then-len-clause-chosen : goal.returns-then-len-clause-chosen
returns-then-len-clause-chosen g c =
    let old = c.in_ok-chosen.chosen.items in
    let new = c.choose_by_records.new.chosen.items in
    let own : old ≡ c.args.columns.chosen.items = c.in_ok-chosen.ensures.items ∙ c.deref.ensures.value in
    let long : length new ≡ length old = search rules in
    subst (λ (chosen : List ℕ). All (λ fields. AreChosen (g.V.Vocabulary.words c.args.vocabulary.now) fields chosen) (map fields_of c.args.ahead.now))
    (unchanged old new c.in_ok-choose_by_records.ensures.more long ∙ own) c.in_ok-choose_by_records.ensures.named

-- what is named stays chosen where more columns are
pub returns-clause-chosen : goal.returns-clause-chosen
returns-clause-chosen g c =
    let words = g.V.Vocabulary.words c.args.vocabulary.now in
    let records = map fields_of c.args.ahead.now in
    let Are : List ℕ → Type 0 = λ chosen. All (λ fields. AreChosen words fields chosen) records in
    let more = c.in_ok-choose_first.ensures in
    let are : Are c.choose_first.new.chosen.items =
    subst Are (sym more.new_is) (all_still words records c.choose_by_records.new.chosen.items more.more c.in_ok-choose_by_records.ensures.named) in
    if_ok c.open_chosen.result (λ columns same. subst Are (sym same) are) c.open_chosen.ensures.chosen
