use Rattle.std.proofs.Common.{◌≡◌, ◌∷◌, ◌++◌, [], ap, map, rules, subst, sym, true, ◌∙◌}
use Rattle.std.specs.Prelude.{Bool, IfOk, Result}
use Rattle.std.proofs.lemmas.List.{map-append}
use Rattle.csv.specs.Records.{fields_of}
use Rattle.bsi_input.specs.RecordSources.{FailsAt, ReadsNextRecord}
use Rattle.bsi_answers.proofs.Asking.{only_long}
use Rattle.bsi_answers.specs.ReadAhead.{ReadsOne}
use Rattle.bsi_answers.specs.declared.faults.FilesFault.{FilesFault}
use Rattle.bsi_answers.proofs.ahead.read_one.Goals.{in-Ok, in-Err-push}
use Rattle.bsi_answers.proofs.ahead.read_one.Goals as goal

pub returns-clause-reads : goal.returns-clause-reads
returns-clause-reads g c =
    let before = c.args.ahead.now.items in
    let after = c.push.new.self.items in
    let read : ReadsNextRecord (λ w. g.A.Read.remaining w.inner) c.args.records.now c.next_record.new.self (fields_of c.next_record.new.fields) true = search rules in
    let Is : Result Bool FilesFault → Type 0 = λ r. IfOk r (ReadsOne (λ w. g.A.Read.remaining w.inner) c.args.records.now c.next_record.new.self (map fields_of before) (map fields_of after)) in
    elim c.match-push.branch [
      | in-Ok w ↦
          let more : after ≡ before ++ c.next_record.new.fields ∷ [] = search rules in
          subst Is (sym w.result-is) (
            fields_of c.next_record.new.fields,
            ap (map fields_of) more ∙ map-append fields_of before (c.next_record.new.fields ∷ []),
            record { read = read.0.0; counted = read.0.1; few = c.next_record.ensures.few; going = read.1 },
          )
      | in-Err-push w ↦ subst Is (sym w.result-is) tt
    ]

pub returns-in-Err-clause-too_long : goal.returns-in-Err-clause-too_long
returns-in-Err-clause-too_long g c =
    let stops : FailsAt (λ w. g.A.Read.remaining w.inner) c.args.records.now c.next_record.new.self c.in-Err.fault = search rules in
    λ is. stops.0.1 (only_long c.in-Err.fault (sym c.of_text.ensures.text ∙ is))
