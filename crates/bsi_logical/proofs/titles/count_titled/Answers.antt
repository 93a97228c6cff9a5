use Rattle.std.proofs.Common.{◌<◌, ◌+◌, List, ℕ, [], arith, ap, sym, count_by, length, ◌∙◌}
use Rattle.std.specs.Str.{bytes_eq}
use Rattle.std.proofs.lemmas.List.{take_all}
use Rattle.std.proofs.lemmas.List.Sums.{count_by_more_no, count_by_more_yes}
use Rattle.csv.specs.Records.{fields_of}
use Rattle.bsi_logical.specs.HeaderTitles.{titles_of}
use Rattle.bsi_logical.proofs.Titling.{length-titles_of}
use Rattle.bsi_logical.proofs.titles.count_titled.Goals as goal
use Rattle.bsi_logical.proofs.titles.count_titled.Goals.{then-has_title, else-has_title}

pub fields-preserved : goal.fields-preserved
fields-preserved c =
    let titles = titles_of (fields_of c.args.header.now) in
    let is_title = λ (other : List ℕ). bytes_eq other c.args.title.now in
    let within : c.fields.index < length titles = omega (arith, length-titles_of (fields_of c.args.header.now)) in
    elim c.if-has_title.branch [
      | then-has_title w ↦ w.count-is ∙ ap (λ (n : ℕ). n + 1) c.fields.invariant ∙ sym (count_by_more_yes is_title titles c.fields.index [] within (sym c.has_title.ensures ∙ w.if-has_title.true))
      | else-has_title w ↦ w.count-is ∙ c.fields.invariant ∙ sym (count_by_more_no is_title titles c.fields.index [] within (sym c.has_title.ensures ∙ w.if-has_title.false))
    ]

pub returns : goal.returns
returns c =
    let titles = titles_of (fields_of c.args.header.now) in
    c.fields.invariant ∙ ap (count_by (λ (other : List ℕ). bytes_eq other c.args.title.now)) (take_all c.fields.index titles (omega (arith, length-titles_of (fields_of c.args.header.now))))
