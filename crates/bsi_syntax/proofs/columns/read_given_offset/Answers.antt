use Rattle.std.proofs.Common.{◌≡◌, None, Some, option_map, sym, ◌∙◌, ap, drop, length-drop, w64, arith, rules}
use Rattle.std.proofs.lemmas.Int.{to_z-of_z}
use Rattle.csv.specs.Records.{field_at, fields_of}
use Rattle.bsi_syntax.specs.Setups.{given_offset}
use Rattle.bsi_syntax.proofs.ColumnRecords.{many_given}
use Rattle.bsi_syntax.proofs.Fields.{last_field, no_field}
use Rattle.bsi_syntax.proofs.columns.read_given_offset.Goals as goal

-- nothing
pub returns-in_default : goal.returns-in_default
returns-in_default c =
    let fields = fields_of c.args.fields.now in
    let none : field_at fields 4 ≡ None = search (rules, c.get.ensures.value, c.in_default.is) in
    sym (ap given_offset (no_field fields 4 none))

-- more than an offset
pub returns-then-len-gt5 : goal.returns-then-len-gt5
returns-then-len-gt5 c =
    let fields = fields_of c.args.fields.now in
    sym (many_given (drop 4 fields) (omega (arith, length-drop 4 fields, c.len.ensures, c.if-len-gt5.true)))

-- an offset
pub returns-in_err-offset : goal.returns-in_err-offset
returns-in_err-offset c =
    let fields = fields_of c.args.fields.now in
    let there : field_at fields 4 ≡ Some c.in-Some.text.now = search (rules, c.get.ensures.value, c.in-Some.is) in
    let last = last_field fields 4 c.in-Some.text.now there (omega (arith, c.len.ensures, c.if-len-gt5.false)) in
    c.from_residual.ensures ∙ sym (ap given_offset last ∙ ap (option_map (λ x. Some x)) (sym c.in_err-offset.ensures))

pub returns : goal.returns
returns c =
    let fields = fields_of c.args.fields.now in
    let there : field_at fields 4 ≡ Some c.in-Some.text.now = search (rules, c.get.ensures.value, c.in-Some.is) in
    let last = last_field fields 4 c.in-Some.text.now there (omega (arith, c.len.ensures, c.if-len-gt5.false)) in
    ap (λ x. Some (Some x)) (to_z-of_z w64 c.in_ok-offset.offset (search rules)) ∙ sym (ap given_offset last ∙ ap (option_map (λ x. Some x)) (sym c.in_ok-offset.ensures))
