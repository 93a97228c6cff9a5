use Rattle.std.proofs.Common.{◌≡◌, ◌+◌, ◌∷◌, [], Some, None, get_or, drop, length, arith, sym, ◌∙◌, ap, rules}
use Rattle.std.proofs.lemmas.List.{length-append}
use Rattle.csv.specs.Records.{fields_of}
use Rattle.bsi_syntax.specs.Numbers.{value_in, values_in}
use Rattle.bsi_syntax.proofs.Values.{behind, values_next, values_stop, values_done}
use Rattle.bsi_syntax.proofs.records.read_row.Goals as goal

-- this field is no value
pub returns-in_default : goal.returns-in_default
returns-in_default c =
    let signed = c.args.schema.now.signed in
    let fields = fields_of c.args.fields.now in
    let this : value_in signed (get_or fields c.values.index []) ≡ None =
    ap (value_in signed) (sym c.field.ensures.value) ∙ ap (λ s. value_in s c.field.result.now) (sym c.signed-signed.ensures)
    ∙ sym c.read_value.ensures ∙ c.in_default.is in
    values_stop signed (values_in signed (drop c.args.from fields)) fields c.values.index c.values.values.items c.values.invariant.read (omega arith) this

pub values-preserved : goal.values-preserved
values-preserved c =
    let signed = c.args.schema.now.signed in
    let fields = fields_of c.args.fields.now in
    let this : value_in signed (get_or fields c.values.index []) ≡ Some c.in-Some.value =
    ap (value_in signed) (sym c.field.ensures.value) ∙ ap (λ s. value_in s c.field.result.now) (sym c.signed-signed.ensures)
    ∙ sym c.read_value.ensures ∙ c.in-Some.is in
    record {
      read = values_next signed (values_in signed (drop c.args.from fields)) fields c.values.index c.values.values.items c.values.invariant.read c.in-Some.value (omega arith) this
          ∙ ap (λ read. behind read (values_in signed (drop (c.values.index + 1) fields))) (sym c.push_reserved.ensures.items);
      count = ap length c.push_reserved.ensures.items ∙ length-append c.values.values.items (c.in-Some.value ∷ []) ∙ omega (arith, c.values.invariant.count);
      room = search (rules, c.values.invariant.room, c.push_reserved.ensures.capacity);
    }

-- all fields were read
pub returns : goal.returns
returns c =
    let signed = c.args.schema.now.signed in
    let fields = fields_of c.args.fields.now in
    ap Some c.new.ensures ∙ values_done signed (values_in signed (drop c.args.from fields)) fields c.values.index c.values.values.items c.values.invariant.read (omega arith)
