use Rattle.std.proofs.Common.{◌≡◌, Option, None, Some, List, ℕ, map, length, rules, subst, sym, ◌∙◌}
use Rattle.std.specs.Prelude.{MatchOption}
use Rattle.bsi_syntax.proofs.Ranked.{question_is_there}
use Rattle.bsi_syntax.specs.Questions.{IsQueryIn}
use Rattle.bsi_syntax.specs.declared.grammar.Grammar.TheVariants.{Index}
use Rattle.bsi_syntax.specs.Vocabularies.{schema_vocabulary}
use Rattle.bsi_rows.specs.Answers.{missing_column}
use Rattle.bsi_ffi.proofs.answers.reply.Goals as goal

-- no column of a query that was read is missing
pub returns-clause-replied : goal.returns-clause-replied
returns-clause-replied c = λ other spelled.
    let schema = c.args.opened.now.table.schema in
    let fields : List (List ℕ) = map (λ f. f.now) c.args.fields.now in
    let is : IsQueryIn Index (schema_vocabulary schema) fields c.in-Some.query = search rules in
    let missing : missing_column (length schema.columns) c.in-Some.query ≡ Some c.in-Err-BadColumn.field-0-0 = search rules in
    let wrong : None ≡ Some c.in-Err-BadColumn.field-0-0 = sym (question_is_there schema fields c.in-Some.query is) ∙ missing in
    subst (λ (o : Option ℕ). MatchOption o (Unit {0}) (λ place. ⊥)) wrong tt
