use Rattle.std.proofs.Common.{subst, ◌≡◌, length, true}
use Rattle.bsi_rows.specs.Table.{AreFitting}
use Rattle.bsi_table.proofs.Keeping.{row_in-fits}
use Rattle.bsi_table.proofs.TableRows.{All-sourced_rows}
use Rattle.bsi_table.specs.Encoded.{sourced_rows}
use Rattle.bsi_schema.specs.Columns.{fits}
use Rattle.bsi_table.proofs.index.Index.schema.Goals as goal

pub returns-clause-fitting : goal.returns-clause-fitting
returns-clause-fitting c =
    let i = c.self.inside in
    let rows : AreFitting i.schema.value.columns (sourced_rows i.origins.rows i.columns.items) =
    All-sourced_rows i.origins.rows i.columns.items (λ row. fits i.schema.value.columns row.1 ≡ true)
    (λ r below. row_in-fits i.schema.value.columns i.columns.items (length i.origins.rows) c.self.invariant.0.columns_are r below) in
    subst (λ t. AreFitting t.schema.columns t.rows) c.self.view_is rows
