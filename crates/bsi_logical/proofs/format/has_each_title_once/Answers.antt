use Rattle.std.proofs.Common.{◌≡◌, [], false, count_by, length, ap, ◌∙◌, arith}
use Rattle.std.specs.Str.{bytes_eq}
use Rattle.csv.specs.Records.{fields_of}
use Rattle.bsi_schema.specs.Columns.{Declared}
use Rattle.bsi_input.proofs.Layouts.{all_stop, not_one}
use Rattle.bsi_logical.specs.HeaderTitles.{titles_of}
use Rattle.bsi_logical.specs.Logical.{title_of}
use Rattle.bsi_logical.specs.LogicalRows.{is_titled_once}
use Rattle.bsi_logical.proofs.format.has_each_title_once.Goals as goal

pub returns-then-count_titled-ne1 : goal.returns-then-count_titled-ne1
returns-then-count_titled-ne1 c =
    let l = c.args.logical.now in
    let titles = titles_of (fields_of c.args.header.now) in
    let counted = c.count_titled.ensures ∙ ap (λ title. count_by (λ other. bytes_eq other title) titles) c.title.ensures in
    let other : is_titled_once titles (title_of l c.columns.c) ≡ false = not_one c.count_titled.result _ counted c.if-count_titled-ne1.true in
    all_stop (is_titled_once titles) l.titles c.columns.c [] (omega (arith, c.columns-test.true, c.columns-c-end.ensures.columns, ap (λ (d : Declared). length d.columns) c.schema.ensures.schema, c.schema.ensures.logical.titled)) other
