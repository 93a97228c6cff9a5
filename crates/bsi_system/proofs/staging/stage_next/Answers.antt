use Rattle.bsi_rows.specs.RowBlocks.{entries_of}
use Rattle.bsi_system.specs.Readers.{IsBatchAt}
use Rattle.bsi_system.proofs.Progress.{first_there}
use Rattle.bsi_system.proofs.staging.stage_next.Goals as goal

-- the rings are of the table's feeders
pub stage_batch-requires-clause-feeder : goal.stage_batch-requires-clause-feeder
stage_batch-requires-clause-feeder g c =
    let batch = c.in-Some.batch.now in
    let at : IsBatchAt c.args.readers.now.items c.args.feeder batch = c.in-Some.ensures in
    first_there c.args.readers.now.items c.args.publisher.now c.requires.loader c.args.feeder (entries_of batch.rows) at.first
