use Rattle.std.proofs.Common.{Vec, Global, ℕ, ◌<◌, [], length, get_or, map, ap, arith, subst, sym, ◌≡◌, ◌∙◌}
use Rattle.std.proofs.lemmas.List.{get_or-map}
use Rattle.csv.specs.Records.{fields_of}
use Rattle.bsi_rows.specs.Fields.{Field}
use Rattle.bsi_survey.specs.Choices.{chosen_fields}
use Rattle.bsi_survey.specs.Looking.{IsStep}
use Rattle.bsi_survey.proofs.Growing.{between_at}
use Rattle.bsi_survey.proofs.Lists.{read_at}
use Rattle.bsi_survey.proofs.observing.observe_fields.Goals as goal

-- one column more
pub columns-preserved : goal.columns-preserved
columns-preserved c =
    let words = map (λ (w : Vec ℕ Global). w.items) c.args.words.now in
    let within : c.columns.c < length c.columns.columns = omega arith in
    let here = get_or c.columns.columns c.columns.c c.index-columns-c.result in
    let step : IsStep words c.field-text.result.now here c.observe.new.self = record {
      accepts = c.in_ok-observe.ensures.field;
      preserved = c.in_ok-observe.ensures.preserved;
      null = c.in_ok-observe.ensures.null;
      value = c.in_ok-observe.ensures.value;
      texts = c.in_ok-observe.ensures.texts;
      only = c.in_ok-observe.ensures.only;
      alike = c.in_ok-observe.ensures.alike;
    } in
    let fields = fields_of c.args.fields.now in
    let indexes = c.args.choice.now.indexes.items in
    let index : c.index.result.now ≡ get_or indexes c.columns.c 0 = sym (read_at indexes c.columns.c c.index.result.now (omega (arith, within, c.columns.invariant.len, c.requires)) c.index.ensures 0) in
    let text : c.field-text.result.now ≡ get_or (chosen_fields c.args.choice.now fields) c.columns.c [] =
    c.field-text.ensures.value ∙ ap (λ (index : ℕ). get_or fields index []) index ∙ sym (get_or-map (λ (index : ℕ). get_or fields index []) indexes c.columns.c 0 [] (omega (arith, within, c.columns.invariant.len, c.requires))) in
    between_at (λ k old new. IsStep words (get_or (chosen_fields c.args.choice.now (fields_of c.args.fields.now)) k []) old new) c.args.columns.now c.columns.columns c.columns.c
    c.index-columns-c.result c.observe.new.self c.columns.invariant within (subst (λ (f : Field). IsStep words f here c.observe.new.self) text step)

pub returns : goal.returns
returns c = record { len = c.columns.invariant.len; each = λ k d low. c.columns.invariant.done k d (omega arith) }
