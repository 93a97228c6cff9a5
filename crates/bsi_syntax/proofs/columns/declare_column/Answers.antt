use Rattle.std.proofs.Common.{◌≡◌, ◌≤◌, Some, None, drop, length, option_and_then, subst, sym, ◌∙◌, ap, rules, arith}
use Rattle.std.proofs.lemmas.Result.{IfOk-weaker}
use Rattle.csv.specs.Records.{fields_of}
use Rattle.bsi_syntax.specs.Setups.{added_after, checked_form, column_after, form_in, given_offset, IsChange}
use Rattle.bsi_syntax.proofs.Adding.{not_done}
use Rattle.bsi_syntax.proofs.ColumnRecords.{column_is, formless, too_few, unnamed, unplaced}
use Rattle.bsi_syntax.proofs.columns.declare_column.Goals as goal

-- fewer than four fields
pub returns-then-len-lt4-clause-done : goal.returns-then-len-lt4-clause-done
returns-then-len-lt4-clause-done c =
    let schema = c.args.schema.now in
    let fields = fields_of c.args.fields.now in
    not_done (column_after schema (drop 1 fields)) schema (too_few schema fields (omega (arith, c.len.ensures, c.if-len-lt4.true)))

-- neither an offset nor nothing after the sizes
pub returns-in_default-clause-done : goal.returns-in_default-clause-done
returns-in_default-clause-done c =
    let schema = c.args.schema.now in
    let fields = fields_of c.args.fields.now in
    let four : 4 ≤ length fields = omega (arith, c.len.ensures, c.if-len-lt4.false) in
    not_done (column_after schema (drop 1 fields)) schema (unplaced schema fields four (sym c.read_given_offset.ensures ∙ c.in_default.is))

-- the name is no text
pub returns-in_default-from_utf8-clause-done : goal.returns-in_default-from_utf8-clause-done
returns-in_default-from_utf8-clause-done c =
    let schema = c.args.schema.now in
    let fields = fields_of c.args.fields.now in
    let four : 4 ≤ length fields = omega (arith, c.len.ensures, c.if-len-lt4.false) in
    not_done (column_after schema (drop 1 fields)) schema (unnamed schema fields four c.field.result.now (sym c.field.ensures.value) c.in_default-from_utf8.ensures.cases.0)

-- there is no such form
pub returns-in_default-2-clause-done : goal.returns-in_default-2-clause-done
returns-in_default-2-clause-done c =
    let schema = c.args.schema.now in
    let fields = fields_of c.args.fields.now in
    let four : 4 ≤ length fields = omega (arith, c.len.ensures, c.if-len-lt4.false) in
    let none : form_in c.field-2.result.now c.field-3.result.now ≡ None = sym c.in_ok-spec.ensures ∙ ap (option_and_then checked_form) c.in_default-2.is in
    not_done (column_after schema (drop 1 fields)) schema
    (formless schema fields four c.field.result.now (sym c.field.ensures.value) c.field-2.result.now c.field-3.result.now (sym c.field-2.ensures.value) (sym c.field-3.ensures.value) none)

pub returns-clause-done : goal.returns-clause-done
returns-clause-done c =
    let schema = c.args.schema.now in
    let fields = fields_of c.args.fields.now in
    let four : 4 ≤ length fields = omega (arith, c.len.ensures, c.if-len-lt4.false) in
    let had : checked_form c.in-Some-2.spec ≡ form_in c.field-2.result.now c.field-3.result.now = ap (option_and_then checked_form) (sym c.in-Some-2.is) ∙ c.in_ok-spec.ensures in
    let given : given_offset (drop 4 fields) ≡ Some c.in-Some.offset = sym c.read_given_offset.ensures ∙ c.in-Some.is in
    let name : c.in-Ok.name.now ≡ c.field.result.now = search (rules, c.in-Ok.ensures.cases) in
    let whole : column_after schema (drop 1 fields) ≡ added_after schema c.in-Ok.name.now c.in-Some-2.spec c.in-Some.offset =
    column_is schema fields four c.field.result.now (sym c.field.ensures.value) c.field-2.result.now c.field-3.result.now (sym c.field-2.ensures.value) (sym c.field-3.ensures.value) c.in-Some-2.spec c.in-Some.offset had given
    ∙ ap (λ n. added_after schema n c.in-Some-2.spec c.in-Some.offset) (sym name) in
    IfOk-weaker c.add.result _ _ (λ b change. subst (λ after. IsChange after schema c.add.new.schema b) (sym whole) change) c.add.ensures.done
