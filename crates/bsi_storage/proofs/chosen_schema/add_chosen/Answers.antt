use Rattle.std.proofs.Common.{◌≡◌, ◌≢◌, Bool, true, false, true≢false, ℤ, Option, None, Result, Ok, Err, rules, subst, sym, ◌∙◌}
use Rattle.std.specs.Int.{w64}
use Rattle.std.specs.Int.RustNames.{FitsSigned}
use Rattle.std.proofs.lemmas.Int.{to_z-of_z}
use Rattle.std.specs.Prelude.{IfErr, IfOk, MatchResult}
use Rattle.bsi_schema.specs.Columns.{column_at, form_of, named_column, MayFollow}
use Rattle.bsi_schema.specs.Refusals.{column_refusal, signed_refusal, IsFirstOr}
use Rattle.bsi_schema.specs.declared.schema_error.SchemaError.{SchemaError}
use Rattle.bsi_schema.specs.declared.schema_error.SchemaError.TheVariants.{NoMemory}
use Rattle.bsi_schema.proofs.Declaring.{column_not_refused, signed_not_refused}
use Rattle.bsi_storage.proofs.chosen_schema.add_chosen.Goals as goal

-- a column that is not refused is added, or memory is refused
not_refused : {E : Type 0} (P : Type 0) (added : Result (Unit {0}) SchemaError) (result : Result Bool E) (refusal : Option SchemaError) → IfErr added (IsFirstOr NoMemory refusal)
    → IfOk result (λ done. MatchResult added (λ _. done ≡ true) (λ e. (done ≡ false) × (e ≢ NoMemory))) → (P → refusal ≡ None) → IfOk result (λ done. done ≡ false → P → ⊥)
not_refused P added (Err e) refusal first told none = tt
not_refused P (Ok x) (Ok done) refusal first told none = λ no p. absurd (true≢false (sym told ∙ no))
not_refused P (Err e) (Ok done) refusal first told none = λ no p. absurd (told.1 (subst (λ r. IsFirstOr NoMemory r e) (none p) first))

pub returns-then-signed-clause-refused : goal.returns-then-signed-clause-refused
returns-then-signed-clause-refused c =
    let narrow = c.args.narrow.now in
    let schema = c.args.schema.now in
    let column = column_at schema.columns c.args.c in
    let spec = c.in_ok-spec.spec in
    let name = c.name.result.now in
    let offset = c.offset.result in
    let fits : FitsSigned w64 offset = search rules in
    let first = subst (λ (x : ℤ). IfErr c.add_signed.result (IsFirstOr NoMemory (signed_refusal narrow name spec x))) (to_z-of_z w64 offset fits) c.add_signed.ensures.refused in
    let same : named_column name (form_of spec) offset ≡ column =
    (λ i. named_column (c.name.ensures i) ((c.in_ok-spec.ensures ∙ c.form.ensures.form) i) (c.offset.ensures.offset i)) in
    not_refused (MayFollow narrow.columns schema.signed column) c.add_signed.result c.check_added.result (signed_refusal narrow name spec offset) first c.check_added.ensures
    (λ may. signed_not_refused narrow schema.signed name spec offset (subst (MayFollow narrow.columns schema.signed) (sym same) may))

pub returns-else-signed-clause-refused : goal.returns-else-signed-clause-refused
returns-else-signed-clause-refused c =
    let narrow = c.args.narrow.now in
    let schema = c.args.schema.now in
    let column = column_at schema.columns c.args.c in
    let spec = c.in_ok-spec.spec in
    let name = c.name-else-signed.result.now in
    let same : named_column name (form_of spec) column.offset ≡ column =
    (λ i. named_column (c.name-else-signed.ensures i) ((c.in_ok-spec.ensures ∙ c.form.ensures.form) i) column.offset) in
    not_refused (MayFollow narrow.columns schema.signed column) c.add.result c.check_added-else-signed.result (column_refusal narrow name spec) c.add.ensures.refused
    c.check_added-else-signed.ensures
    (λ may. column_not_refused narrow schema.signed name spec column.offset (subst (MayFollow narrow.columns schema.signed) (sym same) may))
