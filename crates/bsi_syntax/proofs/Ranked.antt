-- Questions of an index in a file or in memory.
use Rattle.std.proofs.Common.{◌≡◌, ℕ, Bool, true, false, if◌then◌else◌, List, [], ◌∷◌, length, Option, Some, None, option_map, ap, sym, ◌∙◌, refl, codes}
use Rattle.std.specs.Str.{bytes_eq}
use Rattle.bsi_rows.specs.Answers.{columns_of_pred, columns_of_total, missing_column, missing_of}
use Rattle.bsi_rows.specs.declared.query.Query.{Query}
use Rattle.bsi_rows.specs.declared.query.Total.{Total}
use Rattle.bsi_rows.specs.declared.query.Total.TheVariants.{Rank}
use Rattle.bsi_schema.specs.Columns.{Declared, position_of}
use Rattle.bsi_syntax.specs.Events.{total_of}
use Rattle.bsi_rows.specs.Fields.{Field}
use Rattle.bsi_syntax.specs.Numbers.{spelled_number}
use Rattle.bsi_syntax.specs.Predicates.{IsPredicate}
use Rattle.bsi_syntax.specs.Questions.{asked_total, rank_total, IsQueryIn}
use Rattle.bsi_syntax.specs.Reading.{first_as}
use Rattle.bsi_syntax.specs.Vocabularies.{schema_vocabulary}
use Rattle.bsi_syntax.specs.declared.grammar.Grammar.TheVariants.{Index}
use Rattle.bsi_syntax.proofs.SpellWords.{mapped, none_is_some, some_same}
use Rattle.bsi_syntax.proofs.Spelling.{AsksBy, neither_missing, none_missing, not_missing, total_there}
use Rattle.std.proofs.lemmas.Option.{option_and_then_some}

-- ---- the columns that a question reads

rank_there : (schema : Declared) (fields : List Field) (found : Total × List Field) → rank_total (schema_vocabulary schema) fields ≡ Some found
    → missing_of (length schema.columns) (columns_of_total found.0) ≡ None
rank_there schema [] found is = absurd (none_is_some found is)
rank_there schema (name ∷ others) found is =
    option_and_then_some (λ (index : ℕ × List Field). option_map (λ (number : ℕ × List Field). (Rank index.0 number.0, number.1)) (first_as spelled_number index.1))
    (option_map (λ c. (c, others)) (position_of schema.columns name)) found is λ column at_column is.
    mapped (λ c. (c, others)) (position_of schema.columns name) column at_column λ c index same.
    mapped (λ (number : ℕ × List Field). (Rank column.0 number.0, number.1)) (first_as spelled_number column.1) found is λ number spelled is.
    ap (λ (f : Total × List Field). missing_of (length schema.columns) (columns_of_total f.0)) (sym (some_same (Rank column.0 number.0, number.1) found is))
    ∙ ap (λ (p : ℕ × List Field). missing_of (length schema.columns) (p.0 ∷ [])) (sym (some_same (c, others) column same))
    ∙ not_missing schema.columns name c index

asked_there : (schema : Declared) (fields : List Field) (found : Total × List Field) → asked_total (schema_vocabulary schema) fields ≡ Some found
    → missing_of (length schema.columns) (columns_of_total found.0) ≡ None
asked_there schema [] found is = absurd (none_is_some found is)
asked_there schema (word ∷ rest) found is = by (bytes_eq word (codes "rank")) is
  where
    by : (is_rank : Bool) → (if is_rank then rank_total (schema_vocabulary schema) rest else total_of (schema_vocabulary schema) (word ∷ rest)) ≡ Some found
        → missing_of (length schema.columns) (columns_of_total found.0) ≡ None
    by true is = rank_there schema rest found is
    by false is = total_there schema (word ∷ rest) found is

-- each of them is there
pub question_is_there : (schema : Declared) (fields : List Field) (query : Query) → IsQueryIn Index (schema_vocabulary schema) fields query → missing_column (length schema.columns) query ≡ None
question_is_there schema fields query is = by (asked_total (schema_vocabulary schema) fields) refl is
  where
    by : (found : Option (Total × List Field)) → asked_total (schema_vocabulary schema) fields ≡ found → AsksBy (IsPredicate (schema_vocabulary schema)) found query → missing_column (length schema.columns) query ≡ None
    by None at none = absurd none
    by (Some found) at parts =
        neither_missing (length schema.columns) (columns_of_total query.total) (columns_of_pred query.pred)
        (ap (λ t. missing_of (length schema.columns) (columns_of_total t)) parts.0 ∙ asked_there schema fields found at)
        (none_missing schema found.1 query.pred parts.1.1)
