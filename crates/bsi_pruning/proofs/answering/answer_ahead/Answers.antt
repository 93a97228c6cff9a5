use Rattle.std.proofs.Common.{◌≡◌, List, ℕ, map, refl, rules, subst, sym}
use Rattle.std.specs.Prelude.{IfErr}
use Rattle.csv.specs.Records.{fields_of}
use Rattle.bsi_answers.specs.AskLines.{IsAskLineBy}
use Rattle.bsi_answers.specs.ReadAhead.{WritesFirstLines}
use Rattle.bsi_answers.specs.declared.faults.FilesFault.TheVariants.{NoMemory}
use Rattle.bsi_rows.specs.Fields.{Field}
use Rattle.bsi_answers.proofs.ReadingAhead.{no_line}
use Rattle.bsi_answers.proofs.Passing.{if_err}
use Rattle.bsi_pruning.specs.Named.{output_fault, IsNoDamage}
use Rattle.bsi_pruning.specs.declared.fault.NamedFault.{NamedFault}
use Rattle.bsi_pruning.specs.declared.fault.NamedFault.TheVariants.{Columns, Run}
use Rattle.bsi_pruning.proofs.answering.answer_ahead.Goals as goal

-- columns were not read
pub returns-in_err-columns-clause-damage : goal.returns-in_err-columns-clause-damage
returns-in_err-columns-clause-damage g c =
    let reported = c.in_err-columns.field-0.0 in
    let met : IfErr c.from_residual.result (λ (fault : NamedFault). fault ≡ Columns reported) = search rules in
    if_err c.from_residual.result
    (λ fault is t notes kinds are. subst IsNoDamage (sym is) (c.in_err-columns.ensures.fault t notes kinds are)) met

pub returns-in_err-columns-clause-prefix : goal.returns-in_err-columns-clause-prefix
returns-in_err-columns-clause-prefix g c =
    let reported = c.in_err-columns.field-0.0 in
    let now = g.W.Write.contents c.args.writer.now in
    let records = map fields_of c.args.ahead.now in
    let met : IfErr c.from_residual.result (λ (fault : NamedFault). fault ≡ Columns reported) = search rules in
    if_err c.from_residual.result (λ fault is t notes kinds are.
    (let Is : List Field → List ℕ → Type 0 =
    IsAskLineBy c.args.grammar (g.V.Vocabulary.words c.args.vocabulary.now) (g.V.Notation.number_texts c.args.vocabulary.now) t.schema t.rows in
    subst (λ (f : NamedFault). WritesFirstLines Is records now now (output_fault f)) (sym is) (no_line Is now records NoMemory refl))) met

-- not all lines were written
pub returns-in_err-write_lines_over-clause-prefix : goal.returns-in_err-write_lines_over-clause-prefix
returns-in_err-write_lines_over-clause-prefix g c =
    let reported = c.in_err-write_lines_over.field-0.0 in
    let now = g.W.Write.contents c.args.writer.now in
    let after = g.W.Write.contents c.write_lines_over.new.writer in
    let records = map fields_of c.args.ahead.now in
    let met : IfErr c.from_residual-in_err-write_lines_over.result (λ (fault : NamedFault). fault ≡ Run reported) = search rules in
    if_err c.from_residual-in_err-write_lines_over.result (λ fault is t notes kinds are.
    (let Is : List Field → List ℕ → Type 0 =
    IsAskLineBy c.args.grammar (g.V.Vocabulary.words c.args.vocabulary.now) (g.V.Notation.number_texts c.args.vocabulary.now) t.schema t.rows in
    subst (λ (f : NamedFault). WritesFirstLines Is records now after (output_fault f)) (sym is) (c.in_err-write_lines_over.ensures.prefix t notes kinds are))) met
