use Rattle.std.proofs.Common.{◌≡◌, ◌∷◌, [], List, ap, rules, ◌∙◌}
use Rattle.std.specs.Prelude.{IfErr}
use Rattle.std.specs.Io.KnownBytes.{Appends}
use Rattle.csv.specs.Records.{fields_of}
use Rattle.bsi_input.specs.BufferedOutput.{AppendsPrefix}
use Rattle.bsi_rows.specs.Fields.{Field}
use Rattle.bsi_syntax.specs.Bytes.{Bytes}
use Rattle.bsi_syntax.specs.Reading.{texts}
use Rattle.bsi_answers.specs.AskLines.{IsAskLineBy}
use Rattle.bsi_answers.specs.declared.faults.FilesFault.TheVariants.{NoMemory, Write}
use Rattle.bsi_answers.proofs.ReadingAhead.{line_alone, line_cut, line_written, no_line}
use Rattle.bsi_answers.proofs.Passing.{if_err}
use Rattle.bsi_answers.proofs.lines.write_line.Goals as goal

-- a line that was made already
pub returns-in_err-write_bytes-clause-prefix : goal.returns-in_err-write_bytes-clause-prefix
returns-in_err-write_bytes-clause-prefix g c =
    let Is : List Field → Bytes → Type 0 =
    IsAskLineBy c.args.grammar (g.V.Vocabulary.words c.args.vocabulary.now) (g.V.Notation.number_texts c.args.vocabulary.now) c.args.table.now.schema c.args.table.now.rows in
    let line = c.in-Some-Ok.made.items in
    let is : Is (fields_of c.args.record.now) line = search rules in
    let cut : AppendsPrefix (g.W.Write.contents c.args.writer.now) (g.W.Write.contents c.write_bytes.new.writer) line = search rules in
    let failed : IfErr c.from_residual.result (λ fault. fault ≡ Write) = search rules in
    if_err c.from_residual.result (λ fault write. line_cut Is _ _ (fields_of c.args.record.now) line is fault write cut) failed

pub returns-in-Some-Ok-clause-ok : goal.returns-in-Some-Ok-clause-ok
returns-in-Some-Ok-clause-ok g c =
    let Is : List Field → Bytes → Type 0 =
    IsAskLineBy c.args.grammar (g.V.Vocabulary.words c.args.vocabulary.now) (g.V.Notation.number_texts c.args.vocabulary.now) c.args.table.now.schema c.args.table.now.rows in
    let line = c.in-Some-Ok.made.items in
    let is : Is (fields_of c.args.record.now) line = search rules in
    let written : Appends (g.W.Write.contents c.args.writer.now) (g.W.Write.contents c.write_bytes.new.writer) line = search rules in
    line_written Is _ _ (fields_of c.args.record.now) line is written

-- no memory for one that is made now
pub returns-in_err-fields-clause-prefix : goal.returns-in_err-fields-clause-prefix
returns-in_err-fields-clause-prefix g c =
    let Is : List Field → Bytes → Type 0 =
    IsAskLineBy c.args.grammar (g.V.Vocabulary.words c.args.vocabulary.now) (g.V.Notation.number_texts c.args.vocabulary.now) c.args.table.now.schema c.args.table.now.rows in
    let refused : IfErr c.from_residual-in_err-fields.result (λ fault. fault ≡ NoMemory) = search rules in
    if_err c.from_residual-in_err-fields.result (no_line Is _ (fields_of c.args.record.now ∷ [])) refused

pub returns-in_err-write_any_line-clause-prefix : goal.returns-in_err-write_any_line-clause-prefix
returns-in_err-write_any_line-clause-prefix g c =
    let Is : List Field → Bytes → Type 0 =
    IsAskLineBy c.args.grammar (g.V.Vocabulary.words c.args.vocabulary.now) (g.V.Notation.number_texts c.args.vocabulary.now) c.args.table.now.schema c.args.table.now.rows in
    let refused : IfErr c.from_residual-in_err-write_any_line.result (λ fault. fault ≡ NoMemory) = search rules in
    if_err c.from_residual-in_err-write_any_line.result (no_line Is _ (fields_of c.args.record.now ∷ [])) refused

-- one that is made now
pub returns-in_err-write_bytes-2-clause-prefix : goal.returns-in_err-write_bytes-2-clause-prefix
returns-in_err-write_bytes-2-clause-prefix g c =
    let Is : List Field → Bytes → Type 0 =
    IsAskLineBy c.args.grammar (g.V.Vocabulary.words c.args.vocabulary.now) (g.V.Notation.number_texts c.args.vocabulary.now) c.args.table.now.schema c.args.table.now.rows in
    let line = c.write_any_line.new.line.items in
    let is : Is (fields_of c.args.record.now) line =
    line_alone Is (texts c.deref.result.now) (fields_of c.args.record.now) _ line (ap texts c.deref.ensures.value ∙ c.in_ok-fields.ensures) c.clear.ensures.items c.in_ok-write_any_line.ensures in
    let cut : AppendsPrefix (g.W.Write.contents c.args.writer.now) (g.W.Write.contents c.write_bytes-2.new.writer) line = search rules in
    let failed : IfErr c.from_residual-in_err-write_bytes-2.result (λ fault. fault ≡ Write) = search rules in
    if_err c.from_residual-in_err-write_bytes-2.result (λ fault write. line_cut Is _ _ (fields_of c.args.record.now) line is fault write cut) failed

pub returns-clause-ok : goal.returns-clause-ok
returns-clause-ok g c =
    let Is : List Field → Bytes → Type 0 =
    IsAskLineBy c.args.grammar (g.V.Vocabulary.words c.args.vocabulary.now) (g.V.Notation.number_texts c.args.vocabulary.now) c.args.table.now.schema c.args.table.now.rows in
    let line = c.write_any_line.new.line.items in
    let is : Is (fields_of c.args.record.now) line =
    line_alone Is (texts c.deref.result.now) (fields_of c.args.record.now) _ line (ap texts c.deref.ensures.value ∙ c.in_ok-fields.ensures) c.clear.ensures.items c.in_ok-write_any_line.ensures in
    let written : Appends (g.W.Write.contents c.args.writer.now) (g.W.Write.contents c.write_bytes-2.new.writer) line = search rules in
    line_written Is _ _ (fields_of c.args.record.now) line is written
