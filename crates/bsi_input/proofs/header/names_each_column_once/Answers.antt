use Rattle.std.proofs.Common.{◌≡◌, false, count_by, ap, ◌∙◌, arith}
use Rattle.std.specs.Str.{bytes_eq}
use Rattle.csv.specs.Records.{fields_of}
use Rattle.bsi_schema.specs.Columns.{column_at, no_column}
use Rattle.bsi_input.specs.RowFiles.{is_named_once}
use Rattle.bsi_input.proofs.Layouts.{all_stop, not_one}
use Rattle.bsi_input.proofs.header.names_each_column_once.Goals as goal

pub returns-then-count_fields_named-ne1 : goal.returns-then-count_fields_named-ne1
returns-then-count_fields_named-ne1 c =
    let columns = c.args.schema.now.columns in
    let fields = fields_of c.args.header.now in
    let counted = c.count_fields_named.ensures ∙ ap (λ name. count_by (λ field. bytes_eq field name) fields) (c.as_bytes.ensures.value ∙ c.name.ensures) in
    let other : is_named_once fields (column_at columns c.columns.c) ≡ false = not_one c.count_fields_named.result _ counted c.if-count_fields_named-ne1.true in
    all_stop (is_named_once fields) columns c.columns.c no_column (omega (arith, c.columns-test.true, c.columns-c-end.ensures.columns)) other
