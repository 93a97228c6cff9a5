-- Which event the fields of a record ask for: a query, or to submit a row, load or close.
use Rattle.std.specs.Prelude.{◌≡◌, ℕ, if◌then◌else◌, List, [], ◌∷◌, Option, Some, None, option_map, option_and_then, MatchOption, codes}
use Rattle.std.specs.Str.{bytes_eq}
use Rattle.bsi_rows.specs.declared.event.Event.{Event}
use Rattle.bsi_rows.specs.declared.event.Event.TheVariants.{Submit, Load, Close, Ask}
use Rattle.bsi_schema.specs.Columns.{Declared}
use Rattle.bsi_rows.specs.declared.query.Query.{Query}
use Rattle.bsi_rows.specs.declared.query.Total.{Total}
use Rattle.bsi_rows.specs.declared.query.Total.TheVariants.{Count, Sum, Least, Greatest, Median, Rows}
use Rattle.bsi_rows.specs.Fields.{Field}
use Rattle.bsi_syntax.specs.Numbers.{feeder_of, values_in}
use Rattle.bsi_syntax.specs.Predicates.{IsPlainPredicate}
use Rattle.bsi_syntax.specs.Vocabularies.{schema_vocabulary, Words}

-- The total of a column that a word asks for.
abbrev pub total_of_column : Field → Option (ℕ → Total)
total_of_column word =
    if bytes_eq word (codes "sum") then Some Sum
    else (if bytes_eq word (codes "least") then Some Least
    else (if bytes_eq word (codes "greatest") then Some Greatest
    else (if bytes_eq word (codes "median") then Some Median
    else None)))

-- The total, unless it is a sum of numbers that may not be summed.
abbrev pub checked_total : Words → Total → Option Total
checked_total words (Sum c) = if words.sums c then Some (Sum c) else None
checked_total words total = Some total

-- The total that a word asks for, of the column of a name.
abbrev pub named_total : Words → Field → Field → Option Total
named_total words word name =
    option_and_then (λ total. option_and_then (λ c. checked_total words (total c)) (words.column name))
    (total_of_column word)

-- The total of a column that a record asks for, by its first word and the fields after the word.
-- The fields of the predicate follow the column's name.
abbrev pub column_total : Words → Field → List Field → Option (Total × List Field)
column_total words word [] = None
column_total words word (name ∷ rest) =
    option_map (λ total. (total, rest)) (named_total words word name)

-- The total that a record asks for, and the fields of its predicate.
abbrev pub total_of : Words → List Field → Option (Total × List Field)
total_of words [] = None
total_of words (word ∷ rest) =
    if bytes_eq word (codes "count") then Some (Count, rest)
    else (if bytes_eq word (codes "list") then Some (Rows, rest)
    else column_total words word rest)

-- The record asks the query.
abbrev pub IsQuery : Declared → List Field → Query → Type 0
IsQuery schema fields query =
    MatchOption (total_of (schema_vocabulary schema) fields) ⊥
    (λ (total, rest). (query.total ≡ total) × IsPlainPredicate (schema_vocabulary schema) rest query.pred)

-- The event of a record that names a feeder, by the fields after the feeder's number.
abbrev pub feeder_event : Declared → Field → ℕ → List Field → Option Event
feeder_event schema word feeder [] =
    if bytes_eq word (codes "submit") then Some (Submit feeder [])
    else (if bytes_eq word (codes "load") then Some (Load feeder)
    else (if bytes_eq word (codes "close") then Some (Close feeder)
    else None))
feeder_event schema word feeder (value ∷ values) =
    if bytes_eq word (codes "submit") then option_map (Submit feeder) (values_in schema.signed (value ∷ values))
    else None

-- The event of a record that is no query.
abbrev pub plain_event : Declared → List Field → Option Event
plain_event schema (word ∷ feeder ∷ rest) = option_and_then (λ f. feeder_event schema word f rest) (feeder_of feeder)
plain_event schema fields = None

-- The feeder, if it is the only field after the word of a record.
abbrev pub only_feeder : List Field → Option ℕ
only_feeder (feeder ∷ []) = feeder_of feeder
only_feeder fields = None

-- The record asks for the event.
abbrev pub IsEvent : Declared → List Field → Event → Type 0
IsEvent schema fields (Ask query) = IsQuery schema fields query
IsEvent schema fields event = plain_event schema fields ≡ Some event
