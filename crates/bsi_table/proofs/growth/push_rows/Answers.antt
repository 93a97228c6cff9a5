use Rattle.std.proofs.Common.{◌<◌, All, subst, sym}
use Rattle.std.proofs.lemmas.List.Elements.{All-map}
use Rattle.bsi_table.proofs.growth.push_rows.Goals as goal

pub push_feeders-requires-clause-from : goal.push_feeders-requires-clause-from
push_feeders-requires-clause-from c =
    let feeders = c.args.origins.now.feeders in
    subst (All (λ feeder. feeder < feeders)) (sym c.row_feeders.ensures)
    (All-map (λ feeder. feeder < feeders) (λ row. row.0) c.args.block.now.rows c.requires.from)
