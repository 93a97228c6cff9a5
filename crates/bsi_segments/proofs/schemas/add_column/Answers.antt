use Rattle.std.proofs.Common.{◌≡◌, ◌≢◌, Bool, true, false, true≢false, Option, None, Result, Ok, Err, ap, subst, sym, ◌∙◌, rules}
use Rattle.std.specs.Int.{w64}
use Rattle.std.specs.Int.RustNames.{FitsSigned}
use Rattle.std.proofs.lemmas.Int.{to_z-of_z}
use Rattle.std.specs.Prelude.{IfErr, IfOk, IsUtf8, MatchResult}
use Rattle.bsi_schema.specs.Refusals.{column_refusal, signed_refusal, IsFirstOr}
use Rattle.bsi_schema.specs.declared.schema_error.SchemaError.{SchemaError}
use Rattle.bsi_schema.specs.declared.schema_error.SchemaError.TheVariants.{NoMemory}
use Rattle.bsi_schema.proofs.Declaring.{column_not_refused, signed_not_refused}
use Rattle.bsi_schema.proofs.NoNames.{name_is_text}
use Rattle.bsi_segments.proofs.schemas.add_column.Goals as goal

pub returns-in_default-clause-refused : goal.returns-in_default-clause-refused
returns-in_default-clause-refused c = λ no may.
    c.in_default.ensures.cases.0 (subst IsUtf8 (sym c.deref.ensures.value) (name_is_text c.args.column.name.items may.name))

-- a column that is not refused is added, or memory is refused
not_refused : {E : Type 0} (P : Type 0) (added : Result (Unit {0}) SchemaError) (result : Result Bool E) (refusal : Option SchemaError) → IfErr added (IsFirstOr NoMemory refusal)
    → IfOk result (λ done. MatchResult added (λ _. done ≡ true) (λ e. (done ≡ false) × (e ≢ NoMemory))) → (P → refusal ≡ None) → IfOk result (λ done. done ≡ false → P → ⊥)
not_refused P added (Err e) refusal first signed_is none = tt
not_refused P (Ok x) (Ok done) refusal first signed_is none = λ no p. absurd (true≢false (sym signed_is ∙ no))
not_refused P (Err e) (Ok done) refusal first signed_is none = λ no p. absurd (signed_is.1 (subst (λ r. IsFirstOr NoMemory r e) (none p) first))

pub returns-then-signed-clause-refused : goal.returns-then-signed-clause-refused
returns-then-signed-clause-refused c =
    let column = c.args.column in
    let fits : FitsSigned w64 column.offset = search rules in
    let first = subst (λ offset. IfErr c.add_signed.result (IsFirstOr NoMemory (signed_refusal c.args.schema.now c.in-Ok.name.now column.spec offset))) (to_z-of_z w64 column.offset fits) c.add_signed.ensures.refused in
    not_refused _ c.add_signed.result c.check_added.result (signed_refusal c.args.schema.now c.in-Ok.name.now column.spec column.offset) first c.check_added.ensures
    (λ may. ap (λ name. signed_refusal c.args.schema.now name column.spec column.offset) (c.in-Ok.ensures.cases.0 ∙ c.deref.ensures.value)
    ∙ signed_not_refused c.args.schema.now c.args.signed column.name.items column.spec column.offset may)

pub returns-then-offset-eq0-clause-refused : goal.returns-then-offset-eq0-clause-refused
returns-then-offset-eq0-clause-refused c =
    let column = c.args.column in
    not_refused _ c.add.result c.check_added-then-offset-eq0.result (column_refusal c.args.schema.now c.in-Ok.name.now column.spec) c.add.ensures.refused c.check_added-then-offset-eq0.ensures
    (λ may. ap (λ name. column_refusal c.args.schema.now name column.spec) (c.in-Ok.ensures.cases.0 ∙ c.deref.ensures.value)
    ∙ column_not_refused c.args.schema.now c.args.signed column.name.items column.spec column.offset may)
