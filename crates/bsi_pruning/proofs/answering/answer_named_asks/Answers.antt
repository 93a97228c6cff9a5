use Rattle.std.proofs.Common.{◌≡◌, option_map, rules}
use Rattle.csv.specs.Reading.{source_of, strip_bom}
use Rattle.bsi_answers.specs.AskLines.{IsAskLineBy}
use Rattle.std.specs.List.{AllZip}
use Rattle.bsi_answers.specs.Writing.{WritesAll, WritesFirst}
use Rattle.bsi_answers.proofs.Passing.{from_known, if_err, on_ok}
use Rattle.bsi_pruning.specs.Named.{output_fault}
use Rattle.bsi_pruning.proofs.answering.answer_named_asks.Goals as goal

pub returns-clause-ok : goal.returns-clause-ok
returns-clause-ok g c =
    let before = g.W.Write.contents c.args.writer.now in
    let after = g.W.Write.contents c.answer_records.new.writer in
    let source = source_of (λ w. g.A.Read.remaining w.inner) c.new-records.result.input in
    let is : source ≡ option_map strip_bom (g.A.Read.remaining c.args.asks) = search rules in
    on_ok c.answer_records.result
    (λ so t notes kinds are. from_known (g.A.Read.remaining c.args.asks) source
    (λ bytes. WritesAll (AllZip (IsAskLineBy c.args.grammar (g.V.Vocabulary.words c.args.vocabulary.now) (g.V.Notation.number_texts c.args.vocabulary.now) t.schema t.rows)) bytes before after)
    is (so t notes kinds are))
    c.answer_records.ensures.ok

pub returns-clause-prefix : goal.returns-clause-prefix
returns-clause-prefix g c =
    let before = g.W.Write.contents c.args.writer.now in
    let after = g.W.Write.contents c.answer_records.new.writer in
    let source = source_of (λ w. g.A.Read.remaining w.inner) c.new-records.result.input in
    let is : source ≡ option_map strip_bom (g.A.Read.remaining c.args.asks) = search rules in
    if_err c.answer_records.result
    (λ fault so t notes kinds are. from_known (g.A.Read.remaining c.args.asks) source
    (λ bytes. WritesFirst (AllZip (IsAskLineBy c.args.grammar (g.V.Vocabulary.words c.args.vocabulary.now) (g.V.Notation.number_texts c.args.vocabulary.now) t.schema t.rows)) bytes
    (output_fault fault) before after) is (so t notes kinds are))
    c.answer_records.ensures.prefix
