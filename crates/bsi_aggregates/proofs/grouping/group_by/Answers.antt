use Rattle.std.proofs.Common.{◌≡◌, ℕ, Bool, ◌++◌, List, None, Result, Ok, Err, length, ap, sym, subst, ◌∙◌}
use Rattle.std.specs.Prelude.{IfErr, OnOk}
use Rattle.bsi_rows.specs.Answers.{columns_of_pred, columns_of_total, missing_column, missing_of}
use Rattle.bsi_rows.specs.Rows.{SourcedRow}
use Rattle.bsi_rows.specs.declared.query.Query.{Query}
use Rattle.bsi_rows.proofs.Missing.{missing_first, missing_second}
use Rattle.bsi_schema.specs.Columns.{Declared}
use Rattle.bsi_aggregates.specs.Groups.{missing_grouped, selected_by, IsGroupRefusal, IsRefusedOver}
use Rattle.bsi_aggregates.specs.declared.grouping.GroupError.{GroupError}
use Rattle.bsi_aggregates.specs.declared.grouping.GroupError.TheVariants.{BadColumn, TooMany, NoMemory}
use Rattle.bsi_aggregates.proofs.grouping.group_by.Goals as goal

-- the columns that a query reads
abbrev read : Query → List ℕ
read query = columns_of_total query.total ++ columns_of_pred query.pred

so_ok : {T E P : Type 0} (r : Result T E) → P → OnOk r P
so_ok (Ok x) p = p
so_ok (Err e) p = tt

-- a refusal over the rows that the query selects
refused : (schema : Declared) (rows : List SourcedRow) (query : Query) (by : List ℕ) (most : ℕ) (selection : List Bool) → missing_grouped (length schema.columns) query by ≡ None
    → selection ≡ selected_by query rows → (e : GroupError) → IsRefusedOver selection by rows most e → IsGroupRefusal schema rows query by most e
refused schema rows query by most selection none is (BadColumn c) never = absurd never
refused schema rows query by most selection none is TooMany many = (none, subst (λ selection. IsRefusedOver selection by rows most TooMany) is many)
refused schema rows query by most selection none is NoMemory told = (none, tt)

so_err : {T : Type 0} (P Q : GroupError → Type 0) (r : Result T GroupError) → ((e : GroupError) → P e → Q e) → IfErr r P → IfErr r Q
so_err P Q (Ok x) then_so p = tt
so_err P Q (Err e) then_so p = then_so e p

pub returns-in-Some-clause-refused : goal.returns-in-Some-clause-refused
returns-in-Some-clause-refused c =
    let count = c.columns-columns.ensures.columns ∙ ap (λ (s : Declared). length s.columns) c.schema.ensures.schema in
    let missing = sym (c.missing_column.ensures ∙ ap (λ n. missing_column n c.args.query.now) count) in
    missing_first (length c.args.index.now.schema.columns) (read c.args.query.now) c.args.by.now c.in-Some.missing (missing ∙ c.in-Some.is)

pub returns-in-Some-missing_among-clause-refused : goal.returns-in-Some-missing_among-clause-refused
returns-in-Some-missing_among-clause-refused c =
    let count = c.columns-columns.ensures.columns ∙ ap (λ (s : Declared). length s.columns) c.schema.ensures.schema in
    let missing = sym (c.missing_column.ensures ∙ ap (λ n. missing_column n c.args.query.now) count) in
    let others = sym (c.missing_among.ensures ∙ ap (λ n. missing_of n c.args.by.now) count) in
    missing_second (length c.args.index.now.schema.columns) (read c.args.query.now) c.args.by.now (missing ∙ c.in_default.is) ∙ others ∙ c.in-Some-missing_among.is

pub returns-in_default-select-clause-refused : goal.returns-in_default-select-clause-refused
returns-in_default-select-clause-refused c =
    let count = c.columns-columns.ensures.columns ∙ ap (λ (s : Declared). length s.columns) c.schema.ensures.schema in
    let missing = sym (c.missing_column.ensures ∙ ap (λ n. missing_column n c.args.query.now) count) in
    let others = sym (c.missing_among.ensures ∙ ap (λ n. missing_of n c.args.by.now) count) in
    (missing_second (length c.args.index.now.schema.columns) (read c.args.query.now) c.args.by.now (missing ∙ c.in_default.is) ∙ others ∙ c.in_default-missing_among.is, tt)

pub returns-clause-there : goal.returns-clause-there
returns-clause-there c =
    let count = c.columns-columns.ensures.columns ∙ ap (λ (s : Declared). length s.columns) c.schema.ensures.schema in
    let missing = sym (c.missing_column.ensures ∙ ap (λ n. missing_column n c.args.query.now) count) in
    let others = sym (c.missing_among.ensures ∙ ap (λ n. missing_of n c.args.by.now) count) in
    so_ok c.group_selection.result
    (missing_second (length c.args.index.now.schema.columns) (read c.args.query.now) c.args.by.now (missing ∙ c.in_default.is) ∙ others ∙ c.in_default-missing_among.is)

pub returns-clause-refused : goal.returns-clause-refused
returns-clause-refused c =
    let count = c.columns-columns.ensures.columns ∙ ap (λ (s : Declared). length s.columns) c.schema.ensures.schema in
    let missing = sym (c.missing_column.ensures ∙ ap (λ n. missing_column n c.args.query.now) count) in
    let others = sym (c.missing_among.ensures ∙ ap (λ n. missing_of n c.args.by.now) count) in
    let none = missing_second (length c.args.index.now.schema.columns) (read c.args.query.now) c.args.by.now (missing ∙ c.in_default.is) ∙ others ∙ c.in_default-missing_among.is in
    so_err _ _ c.group_selection.result
    (refused c.args.index.now.schema c.args.index.now.rows c.args.query.now c.args.by.now c.args.most c.in-Ok.selection.bits none c.in-Ok.ensures.1) c.group_selection.ensures.refused
