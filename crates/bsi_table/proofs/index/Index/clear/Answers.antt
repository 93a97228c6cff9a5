use Rattle.std.proofs.Common.{◌<◌, length, ap, ap₂, sym, subst, arith, ◌∙◌}
use Rattle.std.specs.Prelude.{All}
use Rattle.std.proofs.lemmas.List.Elements.{All-nil}
use Rattle.bsi_schema.specs.Columns.{column_at}
use Rattle.bsi_table.specs.Encoded.{encoded_at, AreEncoded}
use Rattle.bsi_rows.specs.Table.{no_rows, table}
use Rattle.bsi_table.proofs.Keeping.{encodes_none}
use Rattle.bsi_table.proofs.TableRows.{sourced_rows-none, length-sourced_rows}
use Rattle.bsi_table.proofs.index.Index.clear.Goals as goal

-- the columns are kept as they were, with no row
pub invariant_of-self : goal.invariant_of-self
invariant_of-self c =
    let i = c.self.inside in
    let was = c.self.invariant.0 in
    let lens = ap (λ t. length t.rows) (sym c.self.view_is) ∙ length-sourced_rows i.origins.rows i.columns.items in
    let e = c.clear_rows.ensures in
    let columns = i.schema.value.columns in
    let new = c.clear_rows.new.columns.items in
    let encoded : AreEncoded columns new 0 = record {
      long = e.long ∙ was.columns_are.long;
      each = λ k below.
          let there : k < length i.columns.items = omega (arith, below, was.columns_are.long) in
          encodes_none (column_at columns k) (encoded_at i.columns.items k) (length i.origins.rows) (was.columns_are.each k below) (encoded_at new k) (e.alike k there) (e.empty k there);
    } in (
      record {
        columns_are = subst (AreEncoded columns new) (sym (ap length e.rows)) encoded;
        some = was.some;
        few = omega (arith, e.feeders, was.few);
        from = subst (All (λ feeder. feeder < c.clear_rows.new.origins.feeders)) (sym e.rows) (All-nil (λ feeder. feeder < c.clear_rows.new.origins.feeders));
        within = omega (arith, ap length e.rows);
        least = was.least;
        small = was.small;
      },
      record {
        within = omega (arith, ap length e.rows, c.self.invariant.1.within, c.len.ensures.len, lens);
        columns = λ k within. let there : k < length i.columns.items = omega (arith, within, e.long) in omega (arith, e.room k there, c.self.invariant.1.columns k there, (was.columns_are.each k (omega (arith, there, was.columns_are.long))).rows, lens, c.len.ensures.len);
        origins = omega (arith, e.reserved, c.self.invariant.1.origins, c.len.ensures.len, lens);
      },
    )

pub returns-clause-table : goal.returns-clause-table
returns-clause-table c =
    let i = c.self.inside in
    ap₂ (λ feeders rows. table i.schema.value feeders i.limit rows) c.clear_rows.ensures.feeders (sourced_rows-none c.clear_rows.new.origins.rows c.clear_rows.new.columns.items c.clear_rows.ensures.rows)
    ∙ ap (λ t. no_rows t.schema t.feeders t.limit) c.self.view_is
