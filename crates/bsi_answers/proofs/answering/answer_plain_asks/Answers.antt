use Rattle.std.proofs.Common.{subst}
use Rattle.std.specs.List.{AllZip}
use Rattle.std.specs.Prelude.{IfErr, IfSome, OnOk}
use Rattle.bsi_schema.specs.Columns.{Declared}
use Rattle.bsi_syntax.specs.Notations.{whole_texts}
use Rattle.bsi_syntax.specs.Vocabularies.{schema_vocabulary}
use Rattle.bsi_answers.specs.AskLines.{IsAskLineBy}
use Rattle.bsi_answers.specs.Writing.{WritesAll, WritesFirst}
use Rattle.bsi_answers.proofs.answering.answer_plain_asks.Goals as goal

pub returns-clause-ok : goal.returns-clause-ok
returns-clause-ok g c =
    let before = g.W.Write.contents c.args.writer.now in
    let after = g.W.Write.contents c.answer_asks.new.writer in
    subst (λ (d : Declared). OnOk c.answer_asks.result (IfSome (g.A.Read.remaining c.args.asks) (λ bytes.
    WritesAll (AllZip (IsAskLineBy c.args.grammar (schema_vocabulary d) whole_texts c.args.table.now.schema c.args.table.now.rows)) bytes before after)))
    c.schema.ensures.schema c.answer_asks.ensures.ok

pub returns-clause-prefix : goal.returns-clause-prefix
returns-clause-prefix g c =
    let before = g.W.Write.contents c.args.writer.now in
    let after = g.W.Write.contents c.answer_asks.new.writer in
    subst (λ (d : Declared). IfErr c.answer_asks.result (λ fault. IfSome (g.A.Read.remaining c.args.asks) (λ bytes.
    WritesFirst (AllZip (IsAskLineBy c.args.grammar (schema_vocabulary d) whole_texts c.args.table.now.schema c.args.table.now.rows)) bytes fault before after)))
    c.schema.ensures.schema c.answer_asks.ensures.prefix
