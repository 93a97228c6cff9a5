use Rattle.std.proofs.Common.{length, ap, sym, ◌∙◌}
use Rattle.bsi_table.proofs.TableRows.{length-sourced_rows}
use Rattle.bsi_table.proofs.index.Index.len.Goals as goal

pub returns-clause-len : goal.returns-clause-len
returns-clause-len c =
    c.len.ensures.len ∙ sym (length-sourced_rows c.self.inside.origins.rows c.self.inside.columns.items)
    ∙ ap (λ t. length t.rows) c.self.view_is
