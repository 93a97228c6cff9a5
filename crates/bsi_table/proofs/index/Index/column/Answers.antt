use Rattle.std.proofs.Common.{◌<◌, length, ap, sym, arith, ◌∙◌}
use Rattle.bsi_shift.specs.Shifted.{shifted_entries}
use Rattle.bsi_rows.specs.Rows.{column_of}
use Rattle.bsi_table.proofs.TableRows.{column-sourced_rows, encoded_read}
use Rattle.bsi_table.proofs.index.Index.column.Goals as goal

pub returns-clause-entries : goal.returns-clause-entries
returns-clause-entries c =
    let encoded = c.self.inside.columns.items in
    let invariant = c.self.invariant.0.columns_are in
    let columns = ap (λ t. length t.schema.columns) c.self.view_is in
    let there : c.args.c < length c.self.inside.schema.value.columns = omega (arith, c.requires, columns) in
    let within : c.args.c < length encoded = omega (arith, there, invariant.long) in
    ap shifted_entries (sym (encoded_read encoded c.args.c c.index.result.now within c.index.ensures))
    ∙ sym (column-sourced_rows c.self.inside.origins.rows encoded c.args.c within (invariant.each c.args.c there).rows)
    ∙ ap (λ t. column_of t.rows c.args.c) c.self.view_is
