use Rattle.std.proofs.Common.{◌≡◌, ap, sym, subst, ◌∙◌, List}
use Rattle.csv.specs.Records.{fields_of}
use Rattle.bsi_rows.specs.declared.query.Query.{Query}
use Rattle.bsi_rows.specs.Fields.{Field}
use Rattle.bsi_syntax.specs.Questions.{IsQueryIn}
use Rattle.bsi_syntax.specs.Reading.{texts}
use Rattle.bsi_syntax.specs.Vocabularies.{schema_vocabulary}
use Rattle.bsi_syntax.specs.declared.grammar.Grammar.TheVariants.{Script}
use Rattle.bsi_syntax.proofs.queries.read_query.Goals as goal

-- the fields that were lent are no query
pub returns-in-Err-Stopped : goal.returns-in-Err-Stopped
returns-in-Err-Stopped c = λ query is.
    let words = schema_vocabulary c.args.schema.now in
    let same : texts c.deref.result.now ≡ fields_of c.args.fields.now = ap texts c.deref.ensures.value ∙ c.in_ok-fields.ensures in
    let none : (x : Query) → IsQueryIn Script words (texts c.deref.result.now) x → ⊥ = rw c.in-Err-Stopped.field-0-is at c.in-Err-Stopped.ensures in
    none query (subst (λ (fs : List Field). IsQueryIn Script words fs query) (sym same) is)
