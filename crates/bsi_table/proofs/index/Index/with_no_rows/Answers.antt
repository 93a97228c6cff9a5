use Rattle.std.proofs.Common.{ap₂, ℕ}
use Rattle.bsi_rows.specs.Rows.{SourcedRow}
use Rattle.bsi_rows.specs.Table.{Table}
use Rattle.std.specs.Prelude.{List}
use Rattle.bsi_table.proofs.TableRows.{sourced_rows-none}
use Rattle.bsi_table.proofs.index.Index.with_no_rows.Goals as goal

pub returns : goal.returns
returns c =
    let table : ℕ → List SourcedRow → Table = λ feeders rows. record { schema = c.args.schema.value; feeders = feeders; limit = c.args.limit; rows = rows } in
    ap₂ table c.new.ensures.feeders (sourced_rows-none c.new.result.rows c.in_ok-columns.columns.items c.new.ensures.rows)
