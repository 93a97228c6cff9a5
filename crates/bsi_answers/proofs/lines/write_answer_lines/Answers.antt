use Rattle.std.proofs.Common.{◌≡◌, ◌<◌, ◌∷◌, [], List, ℕ, ap, arith, get_or, length, map, rules, subst, sym, ◌∙◌, Global, Vec}
use Rattle.std.specs.List.{AllZip}
use Rattle.std.specs.Prelude.{◌⊎◌, IfErr, IfOk, Result}
use Rattle.std.specs.declared.alloc.AllocError.{AllocError}
use Rattle.std.proofs.lemmas.List.{get_or-map, length-map}
use Rattle.csv.specs.Records.{fields_of}
use Rattle.bsi_rows.specs.Fields.{Field}
use Rattle.bsi_syntax.specs.Bytes.{Bytes}
use Rattle.bsi_answers.specs.AskLines.{IsAskLineBy}
use Rattle.bsi_answers.specs.ReadAhead.{WritesFirstLines}
use Rattle.bsi_answers.proofs.ReadingAhead.{lines_cut, lines_more, lines_none, made_at, within_of}
use Rattle.bsi_answers.proofs.Passing.{if_err}
use Rattle.bsi_answers.proofs.lines.write_answer_lines.Goals as goal

pub records-init : goal.records-init
records-init g c = lines_none _ _

-- the line that threads made is that of its record
pub write_line-requires : goal.write_line-requires
write_line-requires g c =
    let Made : List (Result (Vec ℕ Global) AllocError) → Type 0 = λ items. (items ≡ []) ⊎ AllZip (λ asked made. IfOk made (λ line.
    IsAskLineBy c.args.grammar (g.V.Vocabulary.words c.args.vocabulary.now) (g.V.Notation.number_texts c.args.vocabulary.now) c.args.table.now.schema c.args.table.now.rows (fields_of asked)
    line.items)) c.args.ahead.now items in
    made_at _ c.args.ahead.now c.deref.result.now c.records.k c.index-ahead-k.result _ c.index-ahead-k.is (subst Made (sym c.deref.ensures.value) c.make_together-made.ensures) c.get.result
    c.get.ensures.lookup.1 (within_of _ c.get.result c.records.k (length c.deref.result.now) c.get.ensures.lookup.3)

-- lines of the first records were written
pub returns-in_err-write_line-clause-prefix : goal.returns-in_err-write_line-clause-prefix
returns-in_err-write_line-clause-prefix g c =
    let Is : List Field → Bytes → Type 0 =
    IsAskLineBy c.args.grammar (g.V.Vocabulary.words c.args.vocabulary.now) (g.V.Notation.number_texts c.args.vocabulary.now) c.args.table.now.schema c.args.table.now.rows in
    let ahead = c.args.ahead.now in
    let records = map fields_of ahead in
    let k = c.records.k in
    let record_now = c.index-ahead-k.result in
    let within : k < length records = omega (arith, c.records-test.true, length-map ahead fields_of) in
    let at : fields_of record_now ≡ get_or records k [] = ap fields_of c.index-ahead-k.is ∙ sym (get_or-map fields_of ahead k _ [] c.records-test.true) in
    let now = g.W.Write.contents c.records.writer in
    let after = g.W.Write.contents c.write_line.new.writer in
    let cut : IfErr c.from_residual.result (WritesFirstLines Is (fields_of record_now ∷ []) now after) = search rules in
    if_err c.from_residual.result (lines_cut Is (g.W.Write.contents c.args.writer.now) now after records k (fields_of record_now) [] within at c.records.invariant) cut

pub records-preserved : goal.records-preserved
records-preserved g c =
    let Is : List Field → Bytes → Type 0 =
    IsAskLineBy c.args.grammar (g.V.Vocabulary.words c.args.vocabulary.now) (g.V.Notation.number_texts c.args.vocabulary.now) c.args.table.now.schema c.args.table.now.rows in
    let ahead = c.args.ahead.now in
    let records = map fields_of ahead in
    let k = c.records.k in
    let record_now = c.index-ahead-k.result in
    let within : k < length records = omega (arith, c.records-test.true, length-map ahead fields_of) in
    let at : fields_of record_now ≡ get_or records k [] = ap fields_of c.index-ahead-k.is ∙ sym (get_or-map fields_of ahead k _ [] c.records-test.true) in
    lines_more Is (g.W.Write.contents c.args.writer.now) (g.W.Write.contents c.records.writer) (g.W.Write.contents c.write_line.new.writer) records k (fields_of record_now) [] within at
    c.records.invariant c.in_ok-write_line.ensures.ok
