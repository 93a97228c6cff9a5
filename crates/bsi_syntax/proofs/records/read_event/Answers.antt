use Rattle.std.proofs.Common.{◌≡◌, true, false, Some, None, codes, drop, option_map, sym, ◌∙◌, ap, rules}
use Rattle.std.specs.Str.{bytes_eq}
use Rattle.std.proofs.lemmas.Result.{IfOk-weaker}
use Rattle.csv.specs.Records.{field_at, fields_of}
use Rattle.bsi_rows.specs.declared.event.Event.TheVariants.{Load, Close}
use Rattle.bsi_syntax.specs.Events.{plain_event, total_of}
use Rattle.bsi_syntax.specs.Vocabularies.{schema_vocabulary}
use Rattle.bsi_syntax.proofs.EventWords.{no_close_total, no_load_total, no_submit_total}
use Rattle.bsi_syntax.proofs.Events.{begins, closed, loaded, mapped, no_event, no_word, plain_read, query_event}
use Rattle.bsi_syntax.proofs.records.read_event.Goals as goal

-- the record has no field
pub returns-in_default : goal.returns-in_default
returns-in_default c =
    let none : field_at (fields_of c.args.fields.now) 0 ≡ None = search (rules, c.get.ensures.value, c.in_default.is) in
    no_word c.args.schema.now (fields_of c.args.fields.now) none

-- a submission
pub returns-then-eq : goal.returns-then-eq
returns-then-eq c =
    let schema = c.args.schema.now in
    let fields = fields_of c.args.fields.now in
    let word = c.in-Some.word.now in
    let first : field_at fields 0 ≡ Some word = search (rules, c.get.ensures.value, c.in-Some.is) in
    let is : bytes_eq word (codes "submit") ≡ true = ap (bytes_eq word) (sym c.as_slice.ensures) ∙ sym c.eq.ensures ∙ c.if-eq.true in
    let own = begins fields word (codes "submit") first is in
    IfOk-weaker c.read_submission.result _ _
    (λ read told. plain_read schema fields (ap (total_of (schema_vocabulary schema)) own ∙ no_submit_total (schema_vocabulary schema) (drop 1 fields)) read (told ∙ sym (ap (plain_event schema) own))) c.read_submission.ensures

-- a load
pub returns-then-eq-2 : goal.returns-then-eq-2
returns-then-eq-2 c =
    let schema = c.args.schema.now in
    let fields = fields_of c.args.fields.now in
    let word = c.in-Some.word.now in
    let first : field_at fields 0 ≡ Some word = search (rules, c.get.ensures.value, c.in-Some.is) in
    let is : bytes_eq word (codes "load") ≡ true = ap (bytes_eq word) (sym c.as_slice-2.ensures) ∙ sym c.eq-2.ensures ∙ c.if-eq-2.true in
    let own = begins fields word (codes "load") first is in
    plain_read schema fields (ap (total_of (schema_vocabulary schema)) own ∙ no_load_total (schema_vocabulary schema) (drop 1 fields)) c.map.result
    (mapped Load c.read_only_feeder.result c.map.result c.map.ensures.cases ∙ ap (option_map Load) c.read_only_feeder.ensures
    ∙ sym (ap (plain_event schema) own ∙ loaded schema (drop 1 fields)))

-- a close
pub returns-then-eq-3 : goal.returns-then-eq-3
returns-then-eq-3 c =
    let schema = c.args.schema.now in
    let fields = fields_of c.args.fields.now in
    let word = c.in-Some.word.now in
    let first : field_at fields 0 ≡ Some word = search (rules, c.get.ensures.value, c.in-Some.is) in
    let is : bytes_eq word (codes "close") ≡ true = ap (bytes_eq word) (sym c.as_slice-3.ensures) ∙ sym c.eq-3.ensures ∙ c.if-eq-3.true in
    let own = begins fields word (codes "close") first is in
    plain_read schema fields (ap (total_of (schema_vocabulary schema)) own ∙ no_close_total (schema_vocabulary schema) (drop 1 fields)) c.map-then-eq-3.result
    (mapped Close c.read_only_feeder-then-eq-3.result c.map-then-eq-3.result c.map-then-eq-3.ensures.cases ∙ ap (option_map Close) c.read_only_feeder-then-eq-3.ensures
    ∙ sym (ap (plain_event schema) own ∙ closed schema (drop 1 fields)))

-- a query, or none
pub returns : goal.returns
returns c =
    let schema = c.args.schema.now in
    let fields = fields_of c.args.fields.now in
    let word = c.in-Some.word.now in
    let first : field_at fields 0 ≡ Some word = search (rules, c.get.ensures.value, c.in-Some.is) in
    let no_submit : bytes_eq word (codes "submit") ≡ false = ap (bytes_eq word) (sym c.as_slice.ensures) ∙ sym c.eq.ensures ∙ c.if-eq.false in
    let no_load : bytes_eq word (codes "load") ≡ false = ap (bytes_eq word) (sym c.as_slice-2.ensures) ∙ sym c.eq-2.ensures ∙ c.if-eq-2.false in
    let no_close : bytes_eq word (codes "close") ≡ false = ap (bytes_eq word) (sym c.as_slice-3.ensures) ∙ sym c.eq-3.ensures ∙ c.if-eq-3.false in
    query_event schema fields (no_event schema word no_submit no_load no_close fields first) c.in_ok-read_query.field-0 c.map-2.result c.in_ok-read_query.ensures c.map-2.ensures.cases
