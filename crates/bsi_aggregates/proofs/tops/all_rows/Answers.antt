use Rattle.std.proofs.Common.{◌-◌, ◌++◌, length, take, ap, arith, ◌∙◌}
use Rattle.std.proofs.lemmas.List.{take_all}
use Rattle.bsi_bits.specs.BitList.{set_positions}
use Rattle.bsi_shift.specs.Shifted.{shifted_entries}
use Rattle.bsi_aggregates.specs.Tops.{rows_at}
use Rattle.bsi_aggregates.proofs.TopsPlaces.{places_count}
use Rattle.bsi_aggregates.proofs.tops.all_rows.Goals as goal

pub returns : goal.returns
returns c =
    let selection = c.args.selection.now.bits in
    let entries = shifted_entries c.args.column.now in
    c.in_ok-list_rows.ensures ∙ ap (λ l. l ++ rows_at entries (take (c.args.count - length l) (set_positions selection))) c.in_ok-listed.ensures.items
    ∙ ap (rows_at entries) (take_all (c.args.count - 0) (set_positions selection) (omega (arith, c.requires.count, places_count selection)))
