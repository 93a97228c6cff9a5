use Rattle.std.proofs.Common.{length, ap, sym, ◌∙◌, arith}
use Rattle.bsi_rows.specs.Numbering.{number_within}
use Rattle.bsi_rows.specs.Rows.{feeders_of}
use Rattle.bsi_table.proofs.TableRows.{feeders-sourced_rows, length-sourced_rows}
use Rattle.bsi_table.proofs.index.Index.row_number.Goals as goal

pub number-requires : goal.number-requires
number-requires c =
    omega (arith, c.requires, ap (λ t. length t.rows) c.self.view_is, length-sourced_rows c.self.inside.origins.rows c.self.inside.columns.items)

pub returns : goal.returns
returns c =
    c.number.ensures
    ∙ ap (λ feeders. number_within feeders c.args.r)
    (sym (feeders-sourced_rows c.self.inside.origins.rows c.self.inside.columns.items) ∙ ap (λ t. feeders_of t.rows) c.self.view_is)
