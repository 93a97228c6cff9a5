use Rattle.std.proofs.Common.{◌≡◌, ◌≤◌, Option, None, Some, List, [], ◌∷◌, ◌++◌, ℕ, map, length, take, rules, subst, sym, ◌∙◌, arith}
use Rattle.std.specs.Prelude.{MatchOption}
use Rattle.std.specs.List.{AllZip}
use Rattle.bsi_syntax.proofs.Ranked.{question_is_there}
use Rattle.bsi_syntax.proofs.Spelling.{not_missing}
use Rattle.bsi_syntax.specs.Questions.{IsQueryIn}
use Rattle.bsi_syntax.specs.declared.grammar.Grammar.TheVariants.{Index}
use Rattle.bsi_syntax.specs.Vocabularies.{schema_vocabulary}
use Rattle.bsi_rows.specs.Answers.{columns_of_pred, columns_of_total}
use Rattle.bsi_rows.proofs.Missing.{missing_second}
use Rattle.bsi_schema.specs.Columns.{position_of}
use Rattle.bsi_aggregates.specs.Groups.{missing_grouped, selected_by, selected_keys, AreGroups, AreMore, IsGroupRefusal}
use Rattle.bsi_ffi.specs.Pairs.{IsFlatPair}
use Rattle.bsi_ffi.proofs.pairs.reply_pairs.Goals as goal

pub returns-in-Ok-clause-grouped : goal.returns-in-Ok-clause-grouped
returns-in-Ok-clause-grouped c =
    let table = c.args.opened.now.table in
    let fields : List (List ℕ) = map (λ f. f.now) c.args.fields.now in
    let query = c.in-Some.query in
    let one = c.in-Some-find.one in
    let other = c.in-Some-find-2.other in
    let is : IsQueryIn Index (schema_vocabulary table.schema) fields query = search rules in
    let named : position_of table.schema.columns c.args.first.now ≡ Some one = search rules in
    let other_named : position_of table.schema.columns c.args.second.now ≡ Some other = search rules in
    let made = c.in-Ok.made.groups in
    let groups : AreGroups query.total (selected_by query table.rows) (one ∷ other ∷ []) table.rows made =
    subst (λ t. AreGroups query.total (selected_by query t.rows) (one ∷ other ∷ []) t.rows made) c.index-index.ensures c.in-Ok.ensures.groups in
    let long : c.len.result ≡ length made = search rules in
    let written : AllZip IsFlatPair made (take c.len.result c.write_pairs.new.pairs) =
    subst (λ n. AllZip IsFlatPair made (take n c.write_pairs.new.pairs)) (sym long) c.write_pairs.ensures.made in
    let enough : c.len.result ≤ length c.write_pairs.new.pairs = omega (arith, long, c.in-Ok.ensures.few, c.write_pairs.ensures.long) in
    (enough, (query, one, other, is, named, other_named, (made, groups, written)))

pub returns-in-Err-TooMany-clause-grouped : goal.returns-in-Err-TooMany-clause-grouped
returns-in-Err-TooMany-clause-grouped c =
    let table = c.args.opened.now.table in
    let fields : List (List ℕ) = map (λ f. f.now) c.args.fields.now in
    let query = c.in-Some.query in
    let one = c.in-Some-find.one in
    let other = c.in-Some-find-2.other in
    let is : IsQueryIn Index (schema_vocabulary table.schema) fields query = search rules in
    let named : position_of table.schema.columns c.args.first.now ≡ Some one = search rules in
    let other_named : position_of table.schema.columns c.args.second.now ≡ Some other = search rules in
    let by = one ∷ other ∷ [] in
    let index = c.index-index.result.now in
    let refused = subst (IsGroupRefusal index.schema index.rows query by (length c.args.pairs.now)) c.in-Err-TooMany.field-0-is c.in-Err-TooMany.ensures.refused in
    let more : AreMore (length c.args.pairs.now) (selected_keys (selected_by query table.rows) by table.rows) =
    subst (λ t. AreMore (length c.args.pairs.now) (selected_keys (selected_by query t.rows) by t.rows)) c.index-index.ensures refused.1 in
    (query, one, other, is, named, other_named, more)

-- no column of a question that was read is missing, nor those of names
pub returns-clause-grouped : goal.returns-clause-grouped
returns-clause-grouped c = λ asked one_at other_at spelled at at_other.
    let schema = c.args.opened.now.table.schema in
    let fields : List (List ℕ) = map (λ f. f.now) c.args.fields.now in
    let query = c.in-Some.query in
    let one = c.in-Some-find.one in
    let other = c.in-Some-find-2.other in
    let columns = length schema.columns in
    let is : IsQueryIn Index (schema_vocabulary schema) fields query = search rules in
    let named : position_of schema.columns c.args.first.now ≡ Some one = search rules in
    let other_named : position_of schema.columns c.args.second.now ≡ Some other = search rules in
    let missing : missing_grouped columns query (one ∷ other ∷ []) ≡ Some c.in-Err-BadColumn.field-0-0 = search rules in
    let none : missing_grouped columns query (one ∷ other ∷ []) ≡ None =
    missing_second columns (columns_of_total query.total ++ columns_of_pred query.pred) (one ∷ other ∷ []) (question_is_there schema fields query is)
    ∙ missing_second columns (one ∷ []) (other ∷ []) (not_missing schema.columns c.args.first.now one named)
    ∙ not_missing schema.columns c.args.second.now other other_named in
    subst (λ (o : Option ℕ). MatchOption o (Unit {0}) (λ place. ⊥)) (sym none ∙ missing) tt
