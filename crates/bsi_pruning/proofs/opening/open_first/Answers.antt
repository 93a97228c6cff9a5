use Rattle.std.proofs.Common.{◌≡◌, ◌∷◌, ◌++◌, [], List, ℕ, map, rules, subst, sym}
use Rattle.std.specs.Prelude.{All}
use Rattle.csv.specs.Records.{fields_of}
use Rattle.bsi_answers.proofs.Passing.{if_ok}
use Rattle.bsi_projection.specs.Words.{AreChosen}
use Rattle.bsi_pruning.proofs.Answered.{all_still}
use Rattle.bsi_pruning.proofs.opening.open_first.Goals as goal
use Rattle.bsi_pruning.proofs.opening.open_first.Goals.{else-is_empty-via-then-is_empty+else-is_err, else-is_empty-via-else-is_empty}

-- the first column is chosen too where none is named
pub returns-clause-chosen : goal.returns-clause-chosen
returns-clause-chosen g c =
    let words = g.V.Vocabulary.words c.args.vocabulary.now in
    let records = map fields_of c.args.ahead.now in
    let named = c.in_ok-choose_by_records.ensures.named in
    let old = c.choose_by_records.new.chosen.items in
    let Are : List ℕ → Type 0 = λ chosen. All (λ fields. AreChosen words fields chosen) records in
    let are : Are c.else-is_empty.chosen.items = elim c.else-is_empty.branch [
      | else-is_empty-via-then-is_empty+else-is_err w ↦
          let more : w.push.new.self.items ≡ old ++ 0 ∷ [] = search rules in
          subst (λ v. Are v.items) (sym w.chosen-is) (subst Are (sym more) (all_still words records old (0 ∷ []) named))
      | else-is_empty-via-else-is_empty w ↦ subst (λ v. Are v.items) (sym w.chosen-is) named
    ] in
    if_ok c.open_chosen.result (λ columns same. subst Are (sym same) are) c.open_chosen.ensures.chosen
