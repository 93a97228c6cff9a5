use Rattle.std.proofs.Common.{map, rules}
use Rattle.std.specs.Prelude.{◌≢◌, IfErr}
use Rattle.bsi_answers.specs.RowFiles.{fed_counts}
use Rattle.bsi_answers.specs.Runs.{fed_lines, AreLines}
use Rattle.bsi_answers.specs.Writing.{AreWrittenBefore, WritesFirst}
use Rattle.bsi_answers.specs.declared.faults.FilesFault.TheVariants.{TooLong}
use Rattle.bsi_answers.specs.declared.faults.Which.TheVariants.{AsksFile}
use Rattle.bsi_answers.proofs.Asking.{head_part, headed_all, headed_part}
use Rattle.bsi_answers.proofs.Passing.{if_err, if_err_both, if_some, if_some_follows, on_ok}
use Rattle.bsi_answers.proofs.answering.answer_all.Goals as goal

-- lines of the feeders alone were written
pub returns-in_err-write_fed_lines-clause-prefix : goal.returns-in_err-write_fed_lines-clause-prefix
returns-in_err-write_fed_lines-clause-prefix g c =
    let schema = c.args.table.now.schema in
    let counts = map fed_counts c.args.fed.now in
    let before = g.W.Write.contents c.args.writer.now in
    let after = g.W.Write.contents c.write_fed_lines.new.writer in
    let short : IfErr c.from_residual.result (λ fault. fault ≢ TooLong AsksFile) = search rules in
    let out : IfErr c.from_residual.result (λ fault. AreWrittenBefore fault (fed_lines 0 counts) before after) = search rules in
    if_err_both c.from_residual.result
    (λ fault never went. if_some (λ bytes. WritesFirst (AreLines schema c.args.table.now.rows counts) bytes fault before after) (g.A.Read.remaining c.args.asks)
    (λ bytes. head_part schema c.args.table.now.rows counts bytes before after fault never went)) short out

-- all of them were, and then the answers
pub returns-clause-ok : goal.returns-clause-ok
returns-clause-ok g c =
    let schema = c.args.table.now.schema in
    let counts = map fed_counts c.args.fed.now in
    let before = g.W.Write.contents c.args.writer.now in
    let middle = g.W.Write.contents c.write_fed_lines.new.writer in
    let after = g.W.Write.contents c.answer_plain_asks.new.writer in
    on_ok c.answer_plain_asks.result
    (λ some. if_some_follows (g.A.Read.remaining c.args.asks) some
    (λ bytes all. headed_all schema c.args.table.now.rows counts bytes before middle after c.in_ok-write_fed_lines.ensures.ok all))
    c.answer_plain_asks.ensures.ok

pub returns-clause-prefix : goal.returns-clause-prefix
returns-clause-prefix g c =
    let schema = c.args.table.now.schema in
    let counts = map fed_counts c.args.fed.now in
    let before = g.W.Write.contents c.args.writer.now in
    let middle = g.W.Write.contents c.write_fed_lines.new.writer in
    let after = g.W.Write.contents c.answer_plain_asks.new.writer in
    if_err c.answer_plain_asks.result
    (λ fault some. if_some_follows (g.A.Read.remaining c.args.asks) some
    (λ bytes prefix. headed_part schema c.args.table.now.rows counts bytes before middle after fault c.in_ok-write_fed_lines.ensures.ok prefix))
    c.answer_plain_asks.ensures.prefix
