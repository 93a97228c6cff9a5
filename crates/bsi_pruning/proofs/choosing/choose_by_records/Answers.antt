use Rattle.std.proofs.Common.{◌≡◌, ◌<◌, ◌≤◌, ◌∷◌, ◌++◌, [], List, ℕ, ap, arith, get_or, length, map, rules, subst, sym, take, ◌∙◌}
use Rattle.std.specs.Prelude.{All}
use Rattle.std.proofs.lemmas.List.{get_or-map, length-map, take_all, take_more}
use Rattle.std.proofs.lemmas.List.Elements.{All-push}
use Rattle.csv.specs.Records.{fields_of}
use Rattle.bsi_projection.specs.Words.{AreChosen}
use Rattle.bsi_pruning.proofs.Answered.{all_still, more_more}
use Rattle.bsi_pruning.proofs.choosing.choose_by_records.Goals as goal
use Rattle.bsi_rows.specs.Fields.{Field}
use Rattle.bsi_syntax.specs.Reading.{texts}

pub records-preserved : goal.records-preserved
records-preserved g c =
    let words = g.V.Vocabulary.words c.args.vocabulary.now in
    let ahead = c.args.ahead.now in
    let records = map fields_of ahead in
    let k = c.records.k in
    let old = c.records.chosen.items in
    let new = c.choose_by_fields.new.chosen.items in
    let more = c.in_ok-choose_by_fields.ensures.more in
    let own = fields_of c.index-ahead-k.result in
    let within : k < length records = omega (arith, c.records-test.true, length-map ahead fields_of) in
    let at : own ≡ get_or records k [] = ap fields_of c.index-ahead-k.is ∙ sym (get_or-map fields_of ahead k _ [] c.records-test.true) in
    let still : All (λ fields. AreChosen words fields new) (take k records) =
    subst (λ (chosen : List ℕ). All (λ fields. AreChosen words fields chosen) (take k records)) (sym more.new_is) (all_still words (take k records) old more.more c.records.invariant.named) in
    let one : AreChosen words own new =
    subst (λ (fs : List Field). AreChosen words fs new) (ap texts c.deref.ensures.value ∙ c.in_ok-fields.ensures) c.in_ok-choose_by_fields.ensures.named in
    record {
      named = subst (λ (rs : List (List Field)). All (λ fields. AreChosen words fields new) rs) (ap (λ (fs : List Field). take k records ++ fs ∷ []) at ∙ sym (take_more records k [] within))
          (All-push (λ (fields : List Field). AreChosen words fields new) (take k records) own still one);
      more = more_more c.args.chosen.now.items old new more.more c.records.invariant.more more.new_is;
    }

pub returns-clause-named : goal.returns-clause-named
returns-clause-named g c =
    let ahead = c.args.ahead.now in
    let past : length ahead ≤ c.records.k = search rules in
    subst (All (λ (fields : List Field). AreChosen (g.V.Vocabulary.words c.args.vocabulary.now) fields c.records.chosen.items))
    (take_all c.records.k (map fields_of ahead) (omega (arith, past, length-map ahead fields_of))) c.records.invariant.named
