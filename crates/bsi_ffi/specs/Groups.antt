-- What the call for groups by one column writes for C, and when it is refused (`IsGrouping`).
use Rattle.std.specs.Prelude.{◌≡◌, ◌+◌, ◌*◌, ◌≤◌, ◌∷◌, [], ℕ, ℤ, List, Option, Some, None, Ok, Err, length, slice_index_or, take, true, false}
use Rattle.std.specs.Int.{cast_unsigned, w128}
use Rattle.std.specs.List.{AllZip}
use Rattle.bsi_bits.specs.Packed.{end_of_u64}
use Rattle.bsi_aggregates.specs.Groups.{selected_by, selected_keys, AreGroups, AreMore, Grouped}
use Rattle.bsi_rows.specs.Fields.{Field}
use Rattle.bsi_syntax.specs.Questions.{IsQueryIn}
use Rattle.bsi_syntax.specs.declared.grammar.Grammar.TheVariants.{Index}
use Rattle.bsi_syntax.specs.Vocabularies.{schema_vocabulary}
use Rattle.bsi_rows.specs.Table.{Table}
use Rattle.bsi_rows.specs.declared.query.Answer.{Answer}
use Rattle.bsi_rows.specs.declared.query.Answer.TheVariants.{Count as count_answer, Sum as sum_answer, Value as value_answer, Rows as rows_answer}
use Rattle.bsi_rows.specs.declared.query.Query.{Query}
use Rattle.bsi_schema.specs.Columns.{position_of}
use Rattle.bsi_ffi.specs.Calls.{count_kind, rows_kind, sum_kind, value_kind, WhereOpen}
use Rattle.bsi_ffi.specs.OpenIndex.{OpenIndex}
use Rattle.bsi_ffi.specs.Statuses.{Ending}
use Rattle.bsi_ffi.specs.declared.answers.FlatAnswer.{FlatAnswer}
use Rattle.bsi_ffi.specs.declared.groups.FlatGroup.{FlatGroup}
use Rattle.bsi_ffi.specs.declared.refusal.Refusal.TheVariants.{BadQuery, BufferTooSmall, NoMemory}

-- The answer as it is written for C, with the number of its rows alone.
abbrev pub IsFlat : Answer → FlatAnswer → Type 0
IsFlat (count_answer n) answer = (answer.kind ≡ count_kind) × (answer.count ≡ n)
IsFlat (sum_answer s) answer =
    (answer.kind ≡ sum_kind) × (answer.low + end_of_u64 * answer.high ≡ cast_unsigned w128 s)
IsFlat (value_answer None) answer = (answer.kind ≡ value_kind) × (answer.present ≡ false)
IsFlat (value_answer (Some x)) answer =
    (answer.kind ≡ value_kind) × (answer.present ≡ true) × (answer.value ≡ x)
IsFlat (rows_answer rows) answer = (answer.kind ≡ rows_kind) × (answer.count ≡ length rows.items)

-- The entry of a group as it is written for C.
abbrev pub IsGroupEntry : Option ℤ → FlatGroup → Type 0
IsGroupEntry None group = group.present ≡ false
IsGroupEntry (Some n) group = (group.present ≡ true) × (group.entry ≡ n)

-- The group by one column as it is written for C.
abbrev pub IsFlatGroup : Grouped → FlatGroup → Type 0
IsFlatGroup group flat = IsGroupEntry (slice_index_or group.entries 0 None) flat × IsFlat group.answer flat.answer

-- The fields ask a query, and a column has this name; both satisfy `Is`.
abbrev pub ForQueryByColumn : Table → List Field → Field → (Query → ℕ → Type 0) → Type 0
ForQueryByColumn table fields name Is =
    (query : Query) × (by : ℕ) × IsQueryIn Index (schema_vocabulary table.schema) fields query × (position_of table.schema.columns name ≡ Some by) × Is query by

abbrev pub IsGrouped : OpenIndex → List Field → Field → List FlatGroup → ℕ → Ending → Type 0
IsGrouped opened fields name groups count (Ok done) =
    (count ≤ length groups) × ForQueryByColumn opened.table fields name (λ query by. (made : List Grouped)
    × AreGroups query.total (selected_by query opened.table.rows) (by ∷ []) opened.table.rows made
    × AllZip IsFlatGroup made (take count groups))
IsGrouped opened fields name groups count (Err BadQuery) =
    (query : Query) → (by : ℕ) → IsQueryIn Index (schema_vocabulary opened.table.schema) fields query
    → position_of opened.table.schema.columns name ≡ Some by → ⊥
IsGrouped opened fields name groups count (Err BufferTooSmall) = ForQueryByColumn opened.table fields name (λ query by.
    AreMore (length groups) (selected_keys (selected_by query opened.table.rows) (by ∷ []) opened.table.rows))
IsGrouped opened fields name groups count (Err NoMemory) = Unit {0}
IsGrouped opened fields name groups count (Err why) = ⊥

abbrev pub IsGrouping : Option OpenIndex → List Field → Field → List FlatGroup → ℕ → Ending → Type 0
IsGrouping index fields name groups count ending =
    WhereOpen index (λ opened ending. IsGrouped opened fields name groups count ending) ending
