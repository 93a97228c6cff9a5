use Rattle.std.proofs.Common.{List, ap, length, map, ◌∙◌}
use Rattle.csv.specs.Records.{fields_of}
use Rattle.bsi_answers.specs.AskLines.{IsAskLineBy}
use Rattle.bsi_answers.proofs.ReadingAhead.{first_lines_follow, lines_follow}
use Rattle.bsi_answers.proofs.Passing.{if_err, on_ok}
use Rattle.bsi_projection.specs.Words.{chosen_texts, chosen_words}
use Rattle.bsi_pruning.proofs.Answered.{lines_lent}
use Rattle.bsi_pruning.proofs.answering.write_lines_over.Goals as goal
use Rattle.bsi_rows.specs.Fields.{Field}
use Rattle.bsi_schema.specs.Columns.{Declared}
use Rattle.bsi_syntax.specs.Bytes.{Bytes}

-- the lines over the chosen columns are those over the table
pub returns-clause-ok : goal.returns-clause-ok
returns-clause-ok g c =
    let w = c.new-words.result in
    let columns = c.args.columns.now in
    let records = map fields_of c.args.ahead.now in
    let before = g.W.Write.contents c.args.writer.now in
    let after = g.W.Write.contents c.write_answer_lines.new.writer in
    let words = g.V.Vocabulary.words c.args.vocabulary.now in
    let lent = g.V.Vocabulary.words w.words.now in
    let Of = g.V.Notation.number_texts c.args.vocabulary.now in
    let texts = g.V.Notation.number_texts w.words.now in
    let Narrow : List Field → Bytes → Type 0 =
    IsAskLineBy c.args.grammar (chosen_words w.chosen.now w.count lent) (chosen_texts w.chosen.now w.count texts) columns.index.schema columns.index.rows in
    on_ok c.write_answer_lines.result (λ wrote t notes kinds are.
    lines_follow Narrow (IsAskLineBy c.args.grammar words Of t.schema t.rows) records before after
    (lines_lent c.args.grammar words lent Of texts (g.S.ReadAt.all_bytes c.args._file.now) c.args.heads.now.heads.items columns t notes kinds records w.chosen.now w.count
    (ap (λ b. g.V.Vocabulary.words b.now) c.new-words.ensures.words) (ap (λ b. g.V.Notation.number_texts b.now) c.new-words.ensures.words)
    (ap (λ b. b.now) c.new-words.ensures.chosen ∙ c.deref.ensures.value) c.requires.open_of c.requires.chosen are
    (c.new-words.ensures.count ∙ c.columns.ensures.columns ∙ ap (λ (s : Declared). length s.columns) (c.schema.ensures (g.S.ReadAt.all_bytes c.args._file.now) t notes kinds are))) wrote)
    c.write_answer_lines.ensures.ok

pub returns-clause-prefix : goal.returns-clause-prefix
returns-clause-prefix g c =
    let w = c.new-words.result in
    let columns = c.args.columns.now in
    let records = map fields_of c.args.ahead.now in
    let before = g.W.Write.contents c.args.writer.now in
    let after = g.W.Write.contents c.write_answer_lines.new.writer in
    let words = g.V.Vocabulary.words c.args.vocabulary.now in
    let lent = g.V.Vocabulary.words w.words.now in
    let Of = g.V.Notation.number_texts c.args.vocabulary.now in
    let texts = g.V.Notation.number_texts w.words.now in
    let Narrow : List Field → Bytes → Type 0 =
    IsAskLineBy c.args.grammar (chosen_words w.chosen.now w.count lent) (chosen_texts w.chosen.now w.count texts) columns.index.schema columns.index.rows in
    if_err c.write_answer_lines.result (λ fault wrote t notes kinds are.
    first_lines_follow Narrow (IsAskLineBy c.args.grammar words Of t.schema t.rows) records before after
    (lines_lent c.args.grammar words lent Of texts (g.S.ReadAt.all_bytes c.args._file.now) c.args.heads.now.heads.items columns t notes kinds records w.chosen.now w.count
    (ap (λ b. g.V.Vocabulary.words b.now) c.new-words.ensures.words) (ap (λ b. g.V.Notation.number_texts b.now) c.new-words.ensures.words)
    (ap (λ b. b.now) c.new-words.ensures.chosen ∙ c.deref.ensures.value) c.requires.open_of c.requires.chosen are
    (c.new-words.ensures.count ∙ c.columns.ensures.columns ∙ ap (λ (s : Declared). length s.columns) (c.schema.ensures (g.S.ReadAt.all_bytes c.args._file.now) t notes kinds are))) fault wrote)
    c.write_answer_lines.ensures.prefix
