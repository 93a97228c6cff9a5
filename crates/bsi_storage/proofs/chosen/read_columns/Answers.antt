use Rattle.std.proofs.Common.{arith, rules}
use Rattle.bsi_storage.proofs.PlacedColumns.{chosen_more}
use Rattle.bsi_storage.proofs.chosen.read_columns.Goals as goal

pub columns-preserved : goal.columns-preserved
columns-preserved g c =
    let held = c.columns.invariant in
    let i = c.columns.i in
    let old = c.columns.columns.items in
    let new = c.push_reserved.new.self.items in
    record {
      many = search rules;
      each = chosen_more (g.R.ReadAt.all_bytes c.args.reader.now) c.args.head.now c.args.chosen.now old new c.in_ok-column.column i c.push_reserved.ensures.items held.many
          held.each c.in_ok-column.ensures.encodes c.in_ok-column.ensures.stands c.in_ok-column.ensures.sums;
      room = omega (arith, c.push_reserved.ensures.capacity, held.room);
    }
