use Rattle.std.proofs.Common.{ap, sym, ◌∙◌}
use Rattle.bsi_rows.specs.Rows.{feeders_of}
use Rattle.bsi_table.proofs.TableRows.{feeders-sourced_rows}
use Rattle.bsi_table.proofs.index.Index.row_feeders.Goals as goal

pub returns : goal.returns
returns c =
    c.row_feeders.ensures ∙ sym (feeders-sourced_rows c.self.inside.origins.rows c.self.inside.columns.items)
    ∙ ap (λ t. feeders_of t.rows) c.self.view_is
