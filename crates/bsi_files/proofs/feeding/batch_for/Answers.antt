use Rattle.std.proofs.Common.{◌≡◌, ◌^◌, ap, rules, ◌∙◌}
use Rattle.bsi_rows.specs.Table.{no_rows, Table}
use Rattle.bsi_table.specs.Index.{table_of}
use Rattle.bsi_files.proofs.feeding.batch_for.Goals as goal

pub returns-clause-batch : goal.returns-clause-batch
returns-clause-batch g c =
    let made : table_of c.in_ok-batch.batch ≡ no_rows c.args.feeder.now.channel.schema 1 (2 ^ 32) = search rules in
    (ap (λ (t : Table). t.rows) (c.reserve.ensures.table ∙ made), ap (λ (t : Table). t.feeders) (c.reserve.ensures.table ∙ made))
