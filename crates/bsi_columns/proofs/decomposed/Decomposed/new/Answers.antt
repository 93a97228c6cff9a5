use Rattle.std.proofs.Common.{[], length, map, refl, ap, arith}
use Rattle.bsi_columns.proofs.EntriesFrom.{no_entries, entries_from, decomposed_itself}
use Rattle.bsi_columns.proofs.decomposed.Decomposed.new.Goals as goal

pub invariant_of-result : goal.invariant_of-result
invariant_of-result g c =
    let digits = map g.E.Encoding.digits c.in_ok-components.components.items in
    let decomposes = no_entries c.args.bases c.new.result.bits digits c.new.ensures c.in_ok-components.ensures.digits in (
      decomposed_itself c.args.bases c.new.result.bits digits [] decomposes,
      c.in_ok-components.ensures.bases,
      record {
        within = omega (arith, ap length c.new.ensures);
        bitmap = omega arith;
        each = λ i below. omega arith;
      },
    )

pub returns : goal.returns
returns g c =
    let digits = map g.E.Encoding.digits c.in_ok-components.components.items in
    let decomposes = no_entries c.args.bases c.new.result.bits digits c.new.ensures c.in_ok-components.ensures.digits in
    (refl, entries_from c.args.bases c.new.result.bits digits [] decomposes)
