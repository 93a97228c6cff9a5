use Rattle.std.proofs.Common.{◌≡◌, ℕ, List, length, replicate, arith, ap, subst, sym, ◌∙◌}
use Rattle.std.proofs.lemmas.List.{length-map, length-replicate}
use Rattle.bsi_rows.specs.Table.{AreFitting, AreFrom}
use Rattle.bsi_rows.specs.Rows.{feeders_of, SourcedRow}
use Rattle.bsi_ffi.proofs.ColumnInputs.{feeders-input_rows}
use Rattle.bsi_ffi.proofs.InputRows.{fitting-input_rows, from-input_rows}
use Rattle.bsi_ffi.proofs.blocks.append_block.Goals as goal

-- each row of the columns fits
pub append_block-requires-clause-fits : goal.append_block-requires-clause-fits
append_block-requires-clause-fits c =
    subst (AreFitting c.args.index.now.schema.columns) (sym c.fill_block.ensures.rows)
    (fitting-input_rows c.args.index.now.schema.columns c.args.feeder c.args.columns.now c.args.from c.args.count
    (λ r before. c.requires.accepted r (omega (arith, before, c.requires.within))))

pub append_block-requires-clause-feeders : goal.append_block-requires-clause-feeders
append_block-requires-clause-feeders c =
    subst (AreFrom c.args.index.now.feeders) (sym c.fill_block.ensures.rows)
    (from-input_rows c.args.index.now.feeders c.args.feeder c.args.columns.now c.args.from c.args.count c.requires.fed)

-- they are of the feeder
feeders-all : (rows : List SourcedRow) (n feeder : ℕ) → feeders_of rows ≡ replicate n feeder → feeders_of rows ≡ replicate (length rows) feeder
feeders-all rows n feeder is = is ∙ ap (λ k. replicate k feeder) (sym (length-replicate n feeder) ∙ sym (ap length is) ∙ length-map rows (λ row. row.0))

pub returns-clause-from : goal.returns-clause-from
returns-clause-from c =
    feeders-all _ c.args.count c.args.feeder
    (ap feeders_of c.fill_block.ensures.rows ∙ feeders-input_rows c.args.feeder c.args.columns.now c.args.from c.args.count)

pub returns-in_err-map_err-clause-from : goal.returns-in_err-map_err-clause-from
returns-in_err-map_err-clause-from c =
    feeders-all _ c.args.count c.args.feeder
    (ap feeders_of c.fill_block.ensures.rows ∙ feeders-input_rows c.args.feeder c.args.columns.now c.args.from c.args.count)
