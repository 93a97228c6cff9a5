use Rattle.std.proofs.Common.{length, ap, sym, arith, ◌∙◌}
use Rattle.bsi_table.proofs.TableRows.{length-sourced_rows}
use Rattle.bsi_table.proofs.index.Index.room.Goals as goal

pub returns-clause-within : goal.returns-clause-within
returns-clause-within c =
    let i = c.self.inside in
    let rows = ap (λ t. length t.rows) (sym c.self.view_is) ∙ length-sourced_rows i.origins.rows i.columns.items in
    omega (arith, rows, c.self.invariant.1.within)
