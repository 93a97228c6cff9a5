use Rattle.std.proofs.Common.{◌≡◌, ◌<◌, Some, length, ap, subst, sym, arith, ◌∙◌}
use Rattle.std.specs.Prelude.{slice_get}
use Rattle.bsi_shift.specs.Shifted.{shifted_entries}
use Rattle.bsi_rows.specs.RowBlocks.{entries_of}
use Rattle.bsi_table.specs.Encoded.{encoded_at, row_in}
use Rattle.bsi_table.proofs.TableRows.{entries-sourced_rows, length-sourced_rows}
use Rattle.bsi_table.proofs.index.Index.row.Goals as goal

pub read_row-requires-clause-even : goal.read_row-requires-clause-even
read_row-requires-clause-even c = λ k within.
    let i = c.self.inside in
    let rows = ap (λ t. length t.rows) (sym c.self.view_is) ∙ length-sourced_rows i.origins.rows i.columns.items in
    subst (λ xs. length (shifted_entries (encoded_at xs k)) ≡ c.len.result) (sym c.deref.ensures.value)
    ((c.self.invariant.0.columns_are.each k (omega (arith, within, ap length c.deref.ensures.value, c.self.invariant.0.columns_are.long))).rows
    ∙ sym rows ∙ sym c.len.ensures.len)

pub returns : goal.returns
returns c =
    let i = c.self.inside in
    let rows = ap (λ t. length t.rows) (sym c.self.view_is) ∙ length-sourced_rows i.origins.rows i.columns.items in
    let below : c.args.r < length i.origins.rows = omega (arith, c.requires, rows) in
    let is : c.new.result ≡ row_in i.columns.items c.args.r = c.new.ensures ∙ c.in_ok-read_row.ensures ∙ ap (λ ks. row_in ks c.args.r) c.deref.ensures.value in
    ap (λ t. slice_get (entries_of t.rows) c.args.r) (sym c.self.view_is)
    ∙ entries-sourced_rows i.origins.rows i.columns.items c.args.r below ∙ ap Some (sym is)
