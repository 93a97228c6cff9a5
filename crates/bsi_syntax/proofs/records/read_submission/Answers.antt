use Rattle.std.proofs.Common.{◌≡◌, option_map, option_and_then, drop, sym, ◌∙◌, ap, rules}
use Rattle.csv.specs.Records.{field_at, fields_of}
use Rattle.bsi_rows.specs.declared.event.Event.TheVariants.{Submit}
use Rattle.bsi_syntax.specs.Numbers.{feeder_of, values_in}
use Rattle.bsi_syntax.proofs.Events.{fed_by, mapped_by, submitted}
use Rattle.bsi_syntax.proofs.records.read_submission.Goals as goal

-- no feeder
pub returns-in_default : goal.returns-in_default
returns-in_default c =
    let schema = c.args.schema.now in
    let fields = fields_of c.args.fields.now in
    let read : c.and_then.result ≡ option_and_then feeder_of (field_at fields 1) =
    fed_by (λ text. text.now) c.get.result c.and_then.result c.and_then.ensures ∙ ap (option_and_then feeder_of) c.get.ensures.value in
    sym (submitted schema fields
    ∙ ap (option_and_then (λ f. option_map (Submit f) (values_in schema.signed (drop 2 fields)))) (sym read ∙ c.in_default.is))

-- a row, or none where a field is no value
pub returns : goal.returns
returns c =
    let schema = c.args.schema.now in
    let fields = fields_of c.args.fields.now in
    let read : c.and_then.result ≡ option_and_then feeder_of (field_at fields 1) =
    fed_by (λ text. text.now) c.get.result c.and_then.result c.and_then.ensures ∙ ap (option_and_then feeder_of) c.get.ensures.value in
    mapped_by (Submit c.in-Some.feeder) _ (λ row event is. search rules) c.in_ok-read_row.field-0 c.map.result c.map.ensures.cases
    ∙ ap (option_map (Submit c.in-Some.feeder)) c.in_ok-read_row.ensures
    ∙ sym (submitted schema fields
    ∙ ap (option_and_then (λ f. option_map (Submit f) (values_in schema.signed (drop 2 fields)))) (sym read ∙ c.in-Some.is))
