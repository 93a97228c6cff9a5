use Rattle.std.proofs.Common.{[], ◌∷◌}
use Rattle.std.specs.Prelude.{IsTrue}
use Rattle.std.proofs.lemmas.List.Elements.{All-head}
use Rattle.bsi_schema.specs.Columns.{fits}
use Rattle.bsi_system.proofs.Progress.{first_fits, first_there}
use Rattle.bsi_system.proofs.staging.stage_first.Goals as goal

-- the row that stands first fits the table
pub stage_row-requires-clause-fits : goal.stage_row-requires-clause-fits
stage_row-requires-clause-fits g c =
    let w = c.args.publisher.now in
    let row = c.in-Some.row.now in
    All-head (λ r. IsTrue (fits w.table.schema.columns r)) row [] (first_fits c.args.readers.now.items w c.requires.loader c.args.feeder (row ∷ []) c.in-Some.ensures)

pub stage_row-requires-clause-feeder : goal.stage_row-requires-clause-feeder
stage_row-requires-clause-feeder g c =
    first_there c.args.readers.now.items c.args.publisher.now c.requires.loader c.args.feeder (c.in-Some.row.now ∷ []) c.in-Some.ensures

pub stage_row-requires-in-None-clause-fits : goal.stage_row-requires-in-None-clause-fits
stage_row-requires-in-None-clause-fits g c =
    let w = c.args.publisher.now in
    let row = c.in_ok-copy_first_of-in-None.field-0 in
    All-head (λ r. IsTrue (fits w.table.schema.columns r)) row [] (first_fits c.args.readers.now.items w c.requires.loader c.args.feeder (row ∷ []) c.in_ok-copy_first_of-in-None.ensures)

pub stage_row-requires-in-None-clause-feeder : goal.stage_row-requires-in-None-clause-feeder
stage_row-requires-in-None-clause-feeder g c =
    first_there c.args.readers.now.items c.args.publisher.now c.requires.loader c.args.feeder (c.in_ok-copy_first_of-in-None.field-0 ∷ []) c.in_ok-copy_first_of-in-None.ensures
