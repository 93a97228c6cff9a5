-- What the call for groups by two columns writes for C, and when it is refused (`IsGroupingByTwo`).
use Rattle.std.specs.Prelude.{◌≡◌, ◌≤◌, ◌∷◌, [], ℕ, ℤ, List, Option, Some, None, Ok, Err, length, take, true, false}
use Rattle.std.specs.List.{AllZip}
use Rattle.bsi_aggregates.specs.Groups.{selected_by, selected_keys, AreGroups, AreMore, Grouped}
use Rattle.bsi_rows.specs.Fields.{Field}
use Rattle.bsi_syntax.specs.Questions.{IsQueryIn}
use Rattle.bsi_syntax.specs.declared.grammar.Grammar.TheVariants.{Index}
use Rattle.bsi_syntax.specs.Vocabularies.{schema_vocabulary}
use Rattle.bsi_rows.specs.Table.{Table}
use Rattle.bsi_rows.specs.declared.query.Query.{Query}
use Rattle.bsi_schema.specs.Columns.{position_of}
use Rattle.bsi_ffi.specs.Calls.{WhereOpen}
use Rattle.bsi_ffi.specs.Groups.{IsFlat}
use Rattle.bsi_ffi.specs.OpenIndex.{OpenIndex}
use Rattle.bsi_ffi.specs.Statuses.{Ending}
use Rattle.bsi_ffi.specs.declared.pairs.FlatEntry.{FlatEntry}
use Rattle.bsi_ffi.specs.declared.pairs.FlatPair.{FlatPair}
use Rattle.bsi_ffi.specs.declared.refusal.Refusal.TheVariants.{BadQuery, BufferTooSmall, NoMemory}

-- The entry as it is written for C.
abbrev pub IsFlatEntry : Option ℤ → FlatEntry → Type 0
IsFlatEntry None entry = entry.present ≡ false
IsFlatEntry (Some n) entry = (entry.present ≡ true) × (entry.number ≡ n)

-- The group by two columns as it is written for C.
abbrev pub IsFlatPair : Grouped → FlatPair → Type 0
IsFlatPair group flat = AllZip IsFlatEntry group.entries flat.entries × IsFlat group.answer flat.answer

-- The fields ask a query, and two columns have these names; they satisfy `Is`.
abbrev pub ForQueryByTwoColumns : Table → List Field → Field → Field → (Query → List ℕ → Type 0) → Type 0
ForQueryByTwoColumns table fields first second Is =
    (query : Query) × (one : ℕ) × (other : ℕ) × IsQueryIn Index (schema_vocabulary table.schema) fields query
    × (position_of table.schema.columns first ≡ Some one) × (position_of table.schema.columns second ≡ Some other)
    × Is query (one ∷ other ∷ [])

abbrev pub IsGroupedByTwo : OpenIndex → List Field → Field → Field → List FlatPair → ℕ → Ending → Type 0
IsGroupedByTwo opened fields first second pairs count (Ok done) =
    (count ≤ length pairs) × ForQueryByTwoColumns opened.table fields first second (λ query by. (made : List Grouped)
    × AreGroups query.total (selected_by query opened.table.rows) by opened.table.rows made
    × AllZip IsFlatPair made (take count pairs))
IsGroupedByTwo opened fields first second pairs count (Err BadQuery) =
    (query : Query) → (one other : ℕ) → IsQueryIn Index (schema_vocabulary opened.table.schema) fields query
    → position_of opened.table.schema.columns first ≡ Some one
    → position_of opened.table.schema.columns second ≡ Some other → ⊥
IsGroupedByTwo opened fields first second pairs count (Err BufferTooSmall) =
    ForQueryByTwoColumns opened.table fields first second (λ query by.
    AreMore (length pairs) (selected_keys (selected_by query opened.table.rows) by opened.table.rows))
IsGroupedByTwo opened fields first second pairs count (Err NoMemory) = Unit {0}
IsGroupedByTwo opened fields first second pairs count (Err why) = ⊥

abbrev pub IsGroupingByTwo : Option OpenIndex → List Field → Field → Field → List FlatPair → ℕ → Ending → Type 0
IsGroupingByTwo index fields first second pairs count ending =
    WhereOpen index (λ opened ending. IsGroupedByTwo opened fields first second pairs count ending) ending
