-- The questions that records ask, in the grammar of scripts and in that of an index.
use Rattle.std.specs.Prelude.{◌≡◌, ◌≢◌, ◌<◌, ◌≤◌, ◌+◌, ℕ, if◌then◌else◌, List, [], ◌∷◌, ◌++◌, Option, Some, None, get_or, length, option_map, option_and_then, Result, Ok, Err, MatchOption, codes}
use Rattle.std.specs.Borrow.{Bor}
use Rattle.std.specs.Str.{bytes_eq}
use Rattle.bsi_rows.specs.Shares.{share_of, Share}
use Rattle.bsi_rows.specs.declared.query.Pred.{Pred}
use Rattle.bsi_rows.specs.declared.query.Query.{Query}
use Rattle.bsi_rows.specs.declared.query.Total.{Total}
use Rattle.bsi_rows.specs.declared.query.Total.TheVariants.{Sum, Least, Greatest, Median, Rank, Rows}
use Rattle.bsi_digits.specs.declared.extreme.Extreme.{Extreme}
use Rattle.bsi_digits.specs.declared.extreme.Extreme.TheVariants as extreme
use Rattle.bsi_rows.specs.declared.question.Question.{Question}
use Rattle.bsi_rows.specs.declared.question.Question.TheVariants as question
use Rattle.bsi_syntax.specs.Events.{total_of}
use Rattle.bsi_rows.specs.Fields.{Field}
use Rattle.bsi_syntax.specs.Numbers.{spelled_number}
use Rattle.bsi_syntax.specs.Predicates.{IsPlainPredicate, IsPredicate}
use Rattle.bsi_syntax.specs.Reading.{first_as, texts, Lent}
use Rattle.bsi_syntax.specs.Vocabularies.{Words}
use Rattle.bsi_syntax.specs.declared.grammar.Grammar.{Grammar}
use Rattle.bsi_syntax.specs.declared.grammar.Grammar.TheVariants.{Script, Index}
use Rattle.bsi_syntax.specs.declared.grammar.QuestionError.{QuestionError}
use Rattle.bsi_syntax.specs.declared.grammar.QuestionError.TheVariants.{NoMemory, Stopped}
use Rattle.bsi_syntax.specs.declared.queries.ColumnTotal.{ColumnTotal}
use Rattle.bsi_syntax.specs.declared.queries.ColumnTotal.TheVariants as total

-- ---- queries

-- The total of column c.
abbrev pub total_by : ColumnTotal → ℕ → Total
total_by total.Sum c = Sum c
total_by total.Least c = Least c
total_by total.Greatest c = Greatest c
total_by total.Median c = Median c

-- A total by rank: the column and the rank, from 0, that follow the word, and the fields of the predicate.
abbrev pub rank_total : Words → List Field → Option (Total × List Field)
rank_total words fields =
    option_and_then (λ (c, others). option_map (λ (rank, rest). (Rank c rank, rest)) (first_as spelled_number others))
    (first_as words.column fields)

-- The total that a record asks of an index, and the fields of its predicate.
abbrev pub asked_total : Words → List Field → Option (Total × List Field)
asked_total words [] = None
asked_total words (word ∷ rest) =
    if bytes_eq word (codes "rank") then rank_total words rest else total_of words (word ∷ rest)

abbrev pub total_in : Grammar → Words → List Field → Option (Total × List Field)
total_in Script words fields = total_of words fields
total_in Index words fields = asked_total words fields

-- A predicate of a grammar. Scripts compare columns with constants alone.
abbrev pub IsPredicateIn : Grammar → Words → List Field → Pred → Type 0
IsPredicateIn Script words fields pred = IsPlainPredicate words fields pred
IsPredicateIn Index words fields pred = IsPredicate words fields pred

-- The fields ask the query: a total, and a predicate.
abbrev pub IsQueryIn : Grammar → Words → List Field → Query → Type 0
IsQueryIn grammar words fields query =
    MatchOption (total_in grammar words fields) ⊥
    (λ (total, rest). (query.total ≡ total) × IsPredicateIn grammar words rest query.pred)

-- ---- questions

-- The word that asks for the greatest or the least rows.
abbrev pub extreme_word : Extreme → Field
extreme_word extreme.Greatest = codes "top"
extreme_word extreme.Least = codes "bottom"

-- The share with a numerator and a denominator that two texts spell.
abbrev pub spelled_share : Field → Field → Option Share
spelled_share numerator denominator =
    option_and_then (λ p. option_and_then (λ w. share_of p w) (spelled_number denominator)) (spelled_number numerator)

-- The fields are columns, each as `by` and its name, and after them the others.
abbrev pub AreByColumns : Words → List Field → List ℕ → List Field → Type 0
AreByColumns words fields [] others = fields ≡ others
AreByColumns words fields (c ∷ by) others =
    (name : Field) × (rest : List Field) × (fields ≡ codes "by" ∷ name ∷ rest) × (words.column name ≡ Some c)
    × AreByColumns words rest by others

-- The most columns of groups.
abbrev pub max_group_columns : ℕ
max_group_columns = 64

-- The fields are all further columns, at most 64 with those before, and after them the rest.
abbrev pub AreFurther : Words → List ℕ → List Field → List ℕ → List Field → Type 0
AreFurther words before fields more rest =
    AreByColumns words fields more rest × (length before + length more ≤ max_group_columns) × (get_or rest 0 [] ≢ codes "by")

-- The further columns were added to those before, or the fields have no such columns.
abbrev pub AreColumns : Words → List ℕ → List Field → List ℕ → Result (Bor (List Lent)) QuestionError → Type 0
AreColumns words before fields after (Ok rest) =
    (more : List ℕ) × (after ≡ before ++ more) × AreFurther words before fields more (texts rest.now)
AreColumns words before fields after (Err (Stopped stop)) =
    (more : List ℕ) → (rest : List Field) → AreFurther words before fields more rest → ⊥
AreColumns words before fields after (Err NoMemory) = Unit {0}

-- The fields ask the question.
abbrev pub IsQuestion : Grammar → Words → List Field → Question → Type 0
IsQuestion grammar words fields (question.Total query) = IsQueryIn grammar words fields query
-- A script asks no other question.
IsQuestion Script words fields other = ⊥
-- Groups: one column or more, and a query that is no list.
IsQuestion Index words fields (question.Groups query by) =
    (rest : List Field) × AreByColumns words fields by.items rest × (0 < length by.items)
    × (length by.items ≤ max_group_columns) × IsQueryIn Index words rest query × (query.total ≢ Rows)
-- First rows: a column, how many rows, and a predicate.
IsQuestion Index words fields (question.Top extreme c most pred) =
    (name number : Field) × (rest : List Field) × (fields ≡ extreme_word extreme ∷ name ∷ number ∷ rest)
    × (words.column name ≡ Some c) × (spelled_number number ≡ Some most) × IsPredicate words rest pred
-- Distinct numbers: a column, and a predicate.
IsQuestion Index words fields (question.Distinct c pred) =
    (name : Field) × (rest : List Field) × (fields ≡ codes "distinct" ∷ name ∷ rest)
    × (words.column name ≡ Some c) × IsPredicate words rest pred
-- A quantile: a column, a share, and a predicate.
IsQuestion Index words fields (question.Quantile share c pred) =
    (name numerator denominator : Field) × (rest : List Field) × (fields ≡ codes "quantile" ∷ name ∷ numerator ∷ denominator ∷ rest)
    × (words.column name ≡ Some c) × (spelled_share numerator denominator ≡ Some share) × IsPredicate words rest pred
