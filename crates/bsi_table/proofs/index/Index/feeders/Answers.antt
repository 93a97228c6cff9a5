use Rattle.std.proofs.Common.{◌<◌, subst}
use Rattle.std.proofs.lemmas.List.Elements.{All-get_or}
use Rattle.bsi_table.specs.Encoded.{sourced_rows}
use Rattle.bsi_rows.specs.Table.{AreFrom}
use Rattle.bsi_table.proofs.TableRows.{All-sourced_rows}
use Rattle.bsi_table.proofs.index.Index.feeders.Goals as goal

pub returns-clause-from : goal.returns-clause-from
returns-clause-from c =
    let i = c.self.inside in
    let rows : AreFrom i.origins.feeders (sourced_rows i.origins.rows i.columns.items) =
    All-sourced_rows i.origins.rows i.columns.items (λ row. row.0 < i.origins.feeders)
    (λ r below. All-get_or (λ feeder. feeder < i.origins.feeders) i.origins.rows r 0 below c.self.invariant.0.from) in
    subst (λ t. AreFrom t.feeders t.rows) c.self.view_is rows
