use Rattle.std.proofs.Common.{◌<◌, ℕ, List, length, ap, ap₂, sym, arith, ◌∙◌}
use Rattle.bsi_table.specs.Index.{table_of, IndexedTable}
use Rattle.bsi_rows.specs.Rows.{SourcedRow}
use Rattle.bsi_table.specs.Encoded.{sourced_rows}
use Rattle.bsi_rows.specs.Table.{table}
use Rattle.bsi_table.proofs.Keeping.{is_table_same, on_err}
use Rattle.bsi_table.proofs.TableRows.{sourced_rows-same, length-sourced_rows}
use Rattle.bsi_table.proofs.index.Index.reserve.Goals as goal

-- there is room for so many rows
pub reserve_rows-requires-clause-short : goal.reserve_rows-requires-clause-short
reserve_rows-requires-clause-short c = λ k within.
    let i = c.self.inside in
    let rows = ap (λ t. length t.rows) (sym c.self.view_is) ∙ length-sourced_rows i.origins.rows i.columns.items in
    let long = c.self.invariant.0.columns_are.long in
    omega (arith, (c.self.invariant.0.columns_are.each k (omega (arith, within, long))).rows, rows, c.len.ensures.len, c.room_to_make-growth.ensures.within)

pub reserve_rows-requires-clause-few : goal.reserve_rows-requires-clause-few
reserve_rows-requires-clause-few c =
    let i = c.self.inside in
    let rows = ap (λ t. length t.rows) (sym c.self.view_is) ∙ length-sourced_rows i.origins.rows i.columns.items in
    omega (arith, rows, c.len.ensures.len, c.room_to_make-growth.ensures.within)

-- the columns and the origins are the same, with no less room
pub invariant_of-self : goal.invariant_of-self
invariant_of-self c =
    let i = c.self.inside in
    let e = c.in_err-reserve_rows.ensures in
    let r = c.self.invariant.1 in (
      is_table_same i.schema.value.columns i.limit i.origins c.reserve_rows.new.origins i.columns.items c.reserve_rows.new.columns.items c.self.invariant.0 e.long e.same e.rows e.feeders,
      record {
        within = omega (arith, ap length e.rows, r.within);
        columns = λ k within. let here : k < length i.columns.items = omega (arith, within, e.long) in omega (arith, e.no_less k here, r.columns k here);
        origins = omega (arith, e.origins_no_less, r.origins);
      },
    )

pub invariant_of-self-2 : goal.invariant_of-self-2
invariant_of-self-2 c =
    let i = c.self.inside in
    let e = c.in_ok-reserve_rows.ensures in
    let rows = ap (λ t. length t.rows) (sym c.self.view_is) ∙ length-sourced_rows i.origins.rows i.columns.items in (
      is_table_same i.schema.value.columns i.limit i.origins c.reserve_rows.new.origins i.columns.items c.reserve_rows.new.columns.items c.self.invariant.0 e.long e.same e.rows e.feeders,
      record {
        within = omega (arith, ap length e.rows, rows, c.len.ensures.len, c.room_to_make-growth.ensures.within);
        columns = λ k within. e.ok k (omega (arith, within, e.long));
        origins = e.room;
      },
    )

pub returns-in_err-reserve_rows-clause-table : goal.returns-in_err-reserve_rows-clause-table
returns-in_err-reserve_rows-clause-table c =
    let i = c.self.inside in
    let e = c.in_err-reserve_rows.ensures in
    ap₂ (λ feeders rows. table i.schema.value feeders i.limit rows) e.feeders
    (ap (λ xs. sourced_rows xs c.reserve_rows.new.columns.items) e.rows
    ∙ sourced_rows-same i.origins.rows i.columns.items c.reserve_rows.new.columns.items e.long (λ k within. (e.same k within).entries))
    ∙ ap table_of c.self.view_is

pub returns-in_err-reserve_rows-clause-err : goal.returns-in_err-reserve_rows-clause-err
returns-in_err-reserve_rows-clause-err c =
    let i = c.self.inside in
    let e = c.in_err-reserve_rows.ensures in
    let indexed : ℕ → List SourcedRow → IndexedTable = λ feeders rows. record { schema = i.schema.value; feeders = feeders; limit = i.limit; rows = rows; room = i.room } in
    on_err c.from_residual.result
    (ap₂ indexed e.feeders
    (ap (λ xs. sourced_rows xs c.reserve_rows.new.columns.items) e.rows
    ∙ sourced_rows-same i.origins.rows i.columns.items c.reserve_rows.new.columns.items e.long (λ k within. (e.same k within).entries))
    ∙ c.self.view_is)

pub returns-clause-table : goal.returns-clause-table
returns-clause-table c =
    let i = c.self.inside in
    let e = c.in_ok-reserve_rows.ensures in
    ap₂ (λ feeders rows. table i.schema.value feeders i.limit rows) e.feeders
    (ap (λ xs. sourced_rows xs c.reserve_rows.new.columns.items) e.rows
    ∙ sourced_rows-same i.origins.rows i.columns.items c.reserve_rows.new.columns.items e.long (λ k within. (e.same k within).entries))
    ∙ ap table_of c.self.view_is
