use Rattle.std.proofs.Common.{◌≡◌, ◌≤◌, Option, None, Some, List, [], ◌∷◌, ◌++◌, ℕ, map, length, take, rules, subst, sym, ◌∙◌, arith}
use Rattle.std.specs.Prelude.{MatchOption}
use Rattle.std.specs.List.{AllZip}
use Rattle.bsi_syntax.proofs.Ranked.{question_is_there}
use Rattle.bsi_syntax.proofs.Spelling.{not_missing}
use Rattle.bsi_syntax.specs.Questions.{IsQueryIn}
use Rattle.bsi_syntax.specs.declared.grammar.Grammar.TheVariants.{Index}
use Rattle.bsi_syntax.specs.Vocabularies.{schema_vocabulary}
use Rattle.bsi_rows.specs.Answers.{columns_of_pred, columns_of_total}
use Rattle.bsi_rows.proofs.Missing.{missing_second}
use Rattle.bsi_schema.specs.Columns.{position_of}
use Rattle.bsi_aggregates.specs.Groups.{missing_grouped, selected_by, AreGroups}
use Rattle.bsi_ffi.specs.Groups.{IsFlatGroup}
use Rattle.bsi_ffi.proofs.groups.reply_groups.Goals as goal

pub returns-in-Ok-clause-grouped : goal.returns-in-Ok-clause-grouped
returns-in-Ok-clause-grouped c =
    let table = c.args.opened.now.table in
    let fields : List (List ℕ) = map (λ f. f.now) c.args.fields.now in
    let is : IsQueryIn Index (schema_vocabulary table.schema) fields c.in-Some.query = search rules in
    let named : position_of table.schema.columns c.args.name.now ≡ Some c.in-Some-find.by = search rules in
    let made = c.in-Ok.made.groups in
    let groups : AreGroups c.in-Some.query.total (selected_by c.in-Some.query table.rows) (c.in-Some-find.by ∷ []) table.rows made =
    subst (λ t. AreGroups c.in-Some.query.total (selected_by c.in-Some.query t.rows) (c.in-Some-find.by ∷ []) t.rows made) c.index-index.ensures c.in-Ok.ensures.groups in
    let long : c.len.result ≡ length made = search rules in
    let written : AllZip IsFlatGroup made (take c.len.result c.write_groups.new.groups) =
    subst (λ n. AllZip IsFlatGroup made (take n c.write_groups.new.groups)) (sym long) c.write_groups.ensures.made in
    let enough : c.len.result ≤ length c.write_groups.new.groups = omega (arith, long, c.in-Ok.ensures.few, c.write_groups.ensures.long) in
    (enough, (c.in-Some.query, c.in-Some-find.by, is, named, (made, groups, written)))

-- no column of a question that was read is missing, nor that of a name
pub returns-clause-grouped : goal.returns-clause-grouped
returns-clause-grouped c = λ other by spelled at.
    let schema = c.args.opened.now.table.schema in
    let fields : List (List ℕ) = map (λ f. f.now) c.args.fields.now in
    let query = c.in-Some.query in
    let is : IsQueryIn Index (schema_vocabulary schema) fields query = search rules in
    let named : position_of schema.columns c.args.name.now ≡ Some c.in-Some-find.by = search rules in
    let missing : missing_grouped (length schema.columns) query (c.in-Some-find.by ∷ []) ≡ Some c.in-Err-BadColumn.field-0-0 = search rules in
    let none : missing_grouped (length schema.columns) query (c.in-Some-find.by ∷ []) ≡ None =
    missing_second (length schema.columns) (columns_of_total query.total ++ columns_of_pred query.pred) (c.in-Some-find.by ∷ []) (question_is_there schema fields query is)
    ∙ not_missing schema.columns c.args.name.now c.in-Some-find.by named in
    subst (λ (o : Option ℕ). MatchOption o (Unit {0}) (λ place. ⊥)) (sym none ∙ missing) tt
