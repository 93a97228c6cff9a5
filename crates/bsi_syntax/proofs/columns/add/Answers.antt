use Rattle.std.proofs.Common.{◌≡◌, Some, None, true, false, pos, w64, IfErr, IfOk, OnOk, subst, sym, rules}
use Rattle.std.proofs.lemmas.Int.{to_z-of_z}
use Rattle.bsi_schema.specs.Columns.{form_of, named_column, with_column}
use Rattle.bsi_rows.specs.Refusals.{column_refusal, signed_refusal, IsFirstOr}
use Rattle.bsi_schema.specs.declared.schema_error.SchemaError.TheVariants.{NoMemory}
use Rattle.bsi_syntax.specs.Setups.{added_after, IsChange}
use Rattle.bsi_syntax.proofs.Adding.{added, added_signed, kept_by, refused, refused_signed, told}
use Rattle.bsi_syntax.proofs.columns.add.Goals as goal

-- from 0 up
pub returns-in-None-clause-done : goal.returns-in-None-clause-done
returns-in-None-clause-done c =
    let schema = c.args.schema.now in
    let name = c.args.name.now in
    let spec = c.args.spec in
    subst (λ o. IfOk c.check_added.result (λ b. IsChange (added_after schema name spec o) schema c.add.new.self b)) (sym c.in-None.is)
    (told (added_after schema name spec None) schema (with_column schema (named_column name (form_of spec) (pos 0)) false) (column_refusal schema name spec)
    (added schema name spec) (refused schema name spec) c.add.result c.check_added.result c.add.new.self
    c.add.ensures.added c.add.ensures.accepted c.add.ensures.refused c.add.ensures.unchanged c.check_added.ensures.exact)

pub returns-in-None-clause-unchanged : goal.returns-in-None-clause-unchanged
returns-in-None-clause-unchanged c = kept_by _ c.add.result c.check_added.result c.check_added.ensures.memory c.add.ensures.unchanged

-- from an offset up
pub returns-in-Some-clause-done : goal.returns-in-Some-clause-done
returns-in-Some-clause-done c =
    let schema = c.args.schema.now in
    let name = c.args.name.now in
    let spec = c.args.spec in
    let least = c.in-Some.least in
    let same = to_z-of_z w64 least (search rules) in
    subst (λ o. IfOk c.check_added-in-Some.result (λ b. IsChange (added_after schema name spec o) schema c.add_signed.new.self b)) (sym c.in-Some.is)
    (told (added_after schema name spec (Some least)) schema (with_column schema (named_column name (form_of spec) least) true) (signed_refusal schema name spec least)
    (added_signed schema name spec least) (refused_signed schema name spec least) c.add_signed.result c.check_added-in-Some.result c.add_signed.new.self
    (subst (λ x. OnOk c.add_signed.result (c.add_signed.new.self ≡ with_column schema (named_column name (form_of spec) x) true)) same c.add_signed.ensures.added)
    (subst (λ x. OnOk c.add_signed.result (signed_refusal schema name spec x ≡ None)) same c.add_signed.ensures.accepted)
    (subst (λ x. IfErr c.add_signed.result (IsFirstOr NoMemory (signed_refusal schema name spec x))) same c.add_signed.ensures.refused)
    c.add_signed.ensures.unchanged c.check_added-in-Some.ensures.exact)

pub returns-in-Some-clause-unchanged : goal.returns-in-Some-clause-unchanged
returns-in-Some-clause-unchanged c = kept_by _ c.add_signed.result c.check_added-in-Some.result c.check_added-in-Some.ensures.memory c.add_signed.ensures.unchanged
