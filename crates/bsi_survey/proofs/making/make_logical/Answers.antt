use Rattle.std.proofs.Common.{◌≡◌, List, length, ap, sym, subst, All, ◌∙◌, arith, rules}
use Rattle.bsi_schema.specs.Columns.{Declared}
use Rattle.bsi_rows.specs.Fields.{Field}
use Rattle.bsi_inference.specs.declared.decision.Column.{Column}
use Rattle.bsi_logical.specs.Logical.{Logical}
use Rattle.bsi_survey.specs.Made.{AreStoredFor, HasNullsOf}
use Rattle.std.specs.Prelude.{IfErr}
use Rattle.bsi_survey.specs.declared.schema_refusal.SchemaRefusal.{SchemaRefusal}
use Rattle.bsi_survey.specs.declared.schema_refusal.SchemaRefusal.TheVariants.{NoMemory}
use Rattle.bsi_survey.proofs.Late.{late_memory, late_same}
use Rattle.bsi_survey.proofs.making.make_logical.Goals as goal

-- the columns that are lent are these
pub make_columns-requires : goal.make_columns-requires
make_columns-requires c = subst (λ (cs : List Column). length cs ≡ length c.args.titles.now) (sym c.deref.ensures.value) c.requires.len

-- a valid schema of these columns is at hand
pub set_dialect-requires : goal.set_dialect-requires
set_dialect-requires c = ap (λ (l : Logical). l.dialect) c.in_ok-logical.ensures

pub set_titles-requires : goal.set_titles-requires
set_titles-requires c =
    let plain = ap (λ (l : Logical). length l.schema.columns) c.in_ok-logical.ensures in
    let dialect = ap (λ (l : Logical). length l.schema.columns) c.in_ok-set_dialect.ensures in
    let lent = ap (λ (cs : List Column). length cs) c.deref.ensures.value in
    omega (arith, c.requires.len, c.in_ok-schema.ensures.stored.len, lent, plain, dialect)

pub set_kinds-requires-clause-len : goal.set_kinds-requires-clause-len
set_kinds-requires-clause-len c =
    let plain = ap (λ (l : Logical). length l.schema.columns) c.in_ok-logical.ensures in
    let dialect = ap (λ (l : Logical). length l.schema.columns) c.in_ok-set_dialect.ensures in
    let titles = ap (λ (l : Logical). length l.schema.columns) c.in_ok-set_titles.ensures.same in
    let nulls = ap (λ (l : Logical). length l.schema.columns) c.in_ok-add_nulls.ensures.adds.same in
    let lent = ap (λ (cs : List Column). length cs) c.deref.ensures.value in
    omega (arith, c.in_ok-schema.ensures.stored.len, lent, plain, dialect, titles, nulls)

-- the schema, the dialect, the titles and the null words are set in turn, and the kinds at last
pub returns-clause-stored : goal.returns-clause-stored
returns-clause-stored c =
    let kinds = ap (λ (l : Logical). l.schema) c.in_ok-set_kinds.ensures.same in
    let nulls = ap (λ (l : Logical). l.schema) c.in_ok-add_nulls.ensures.adds.same in
    let titles = ap (λ (l : Logical). l.schema) c.in_ok-set_titles.ensures.same in
    let dialect = ap (λ (l : Logical). l.schema) c.in_ok-set_dialect.ensures in
    let plain = ap (λ (l : Logical). l.schema) c.in_ok-logical.ensures in
    subst (λ (s : Declared). AreStoredFor c.args.columns.items s) (sym (kinds ∙ nulls ∙ titles ∙ dialect ∙ plain))
    (subst (λ (cs : List Column). AreStoredFor cs c.in_ok-schema.schema) c.deref.ensures.value c.in_ok-schema.ensures.stored)

pub returns-clause-dialect : goal.returns-clause-dialect
returns-clause-dialect c =
    let kinds = ap (λ (l : Logical). l.dialect) c.in_ok-set_kinds.ensures.same in
    let nulls = ap (λ (l : Logical). l.dialect) c.in_ok-add_nulls.ensures.adds.same in
    let titles = ap (λ (l : Logical). l.dialect) c.in_ok-set_titles.ensures.same in
    kinds ∙ nulls ∙ titles ∙ ap (λ (l : Logical). l.dialect) c.in_ok-set_dialect.ensures

pub returns-clause-kinds : goal.returns-clause-kinds
returns-clause-kinds c = c.in_ok-set_kinds.ensures.kinds

pub returns-clause-nulls : goal.returns-clause-nulls
returns-clause-nulls c =
    let kinds = ap (λ (l : Logical). l.nulls) c.in_ok-set_kinds.ensures.same in
    subst (λ (ns : List Field). All (HasNullsOf ns) c.args.columns.items) (sym kinds)
    (subst (λ (cs : List Column). All (HasNullsOf c.add_nulls.new.logical.nulls) cs) c.deref-2.ensures.value c.in_ok-add_nulls.ensures.nulls)

pub returns-clause-titles : goal.returns-clause-titles
returns-clause-titles c =
    let kinds = ap (λ (l : Logical). l.titles) c.in_ok-set_kinds.ensures.same in
    let nulls = ap (λ (l : Logical). l.titles) c.in_ok-add_nulls.ensures.adds.same in
    kinds ∙ nulls ∙ c.in_ok-set_titles.ensures.titles

pub returns-in_err-schema-clause-late : goal.returns-in_err-schema-clause-late
returns-in_err-schema-clause-late c =
    let why = c.in_err-schema.field-0.0 in
    let same : IfErr c.from_residual.result (λ (e : SchemaRefusal). e ≡ why) = search rules in
    late_same c.from_residual.result why c.in_err-schema.ensures.late same

pub returns-in_err-logical-clause-late : goal.returns-in_err-logical-clause-late
returns-in_err-logical-clause-late c =
    let none : IfErr c.from_residual-in_err-logical.result (λ (e : SchemaRefusal). e ≡ NoMemory) = search rules in
    late_memory c.from_residual-in_err-logical.result none
