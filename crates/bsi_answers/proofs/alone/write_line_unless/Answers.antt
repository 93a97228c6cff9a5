use Rattle.bsi_answers.proofs.Recorded.{asked_record}
use Rattle.bsi_answers.proofs.alone.write_line_unless.Goals as goal
use Rattle.bsi_syntax.specs.Reading.{texts}

-- the line of the reply answers the record
pub returns : goal.returns
returns g c =
    asked_record c.args.grammar (g.V.Vocabulary.words c.args.vocabulary.now) (g.V.Notation.number_texts c.args.vocabulary.now) c.args.table.now.schema
    c.args.table.now.rows (texts c.args.fields.now) c.write_reply_line.result c.args.line.now.items c.write_reply_line.new.line.items c.in-Ok.question
    c.answer-reply.result c.in-Ok.ensures c.answer-reply.ensures c.write_reply_line.ensures
