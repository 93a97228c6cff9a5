use Rattle.std.proofs.Common.{◌≡◌, ◌<◌, ◌≤◌, ◌∷◌, [], length, ap, sym, arith, ◌∙◌, true}
use Rattle.bsi_schema.specs.Columns.{fits}
use Rattle.bsi_table.specs.Index.{table_of}
use Rattle.bsi_rows.specs.Rows.{SourcedRow}
use Rattle.bsi_rows.specs.Table.{with_row, AreFitting, AreFrom}
use Rattle.bsi_schema.proofs.Fitting.{fits-length}
use Rattle.bsi_table.proofs.Growing.{grown_room, grown_rows, grown_table}
use Rattle.bsi_table.proofs.Keeping.{All-one, row_in_range, row_small}
use Rattle.bsi_table.proofs.TableRows.{length-sourced_rows}
use Rattle.bsi_table.proofs.index.Index.append.Goals as goal

pub push_row-requires-clause-long : goal.push_row-requires-clause-long
push_row-requires-clause-long c =
    let same = ap table_of c.self.view_is ∙ c.in_ok-reserve.ensures.table in
    let row = fits-length c.args.self.now.schema.columns c.args.row.now c.requires.fits in
    ap length c.values.ensures ∙ row ∙ sym (ap (λ t. length t.schema.columns) same) ∙ sym c.self.invariant.0.columns_are.long

pub push_row-requires-clause-range : goal.push_row-requires-clause-range
push_row-requires-clause-range c =
    let i = c.self.inside in
    let same = ap table_of c.self.view_is ∙ c.in_ok-reserve.ensures.table in
    let fit = ap (fits i.schema.value.columns) c.values.ensures ∙ ap (λ t. fits t.schema.columns c.args.row.now) same ∙ c.requires.fits in
    row_in_range i.schema.value.columns i.columns.items (length i.origins.rows) c.self.invariant.0.columns_are c.values.result.now fit

pub push_row-requires-clause-small : goal.push_row-requires-clause-small
push_row-requires-clause-small c =
    let i = c.self.inside in
    let same = ap table_of c.self.view_is ∙ c.in_ok-reserve.ensures.table in
    let fit = ap (fits i.schema.value.columns) c.values.ensures ∙ ap (λ t. fits t.schema.columns c.args.row.now) same ∙ c.requires.fits in
    row_small i.schema.value.columns i.columns.items (length i.origins.rows) c.self.invariant.0.columns_are c.values.result.now fit

-- ---- the row is one that the index takes

pub invariant_of-self : goal.invariant_of-self
invariant_of-self c =
    let i = c.self.inside in
    let o = i.origins in
    let same = ap table_of c.self.view_is ∙ c.in_ok-reserve.ensures.table in
    let row : SourcedRow = (c.args.feeder, c.values.result.now) in
    let fit = ap (fits i.schema.value.columns) c.values.ensures ∙ ap (λ t. fits t.schema.columns c.args.row.now) same ∙ c.requires.fits in
    let fitting : AreFitting i.schema.value.columns (row ∷ []) = All-one (λ row. fits i.schema.value.columns row.1 ≡ true) row fit in
    let from : AreFrom o.feeders (row ∷ []) = All-one (λ row. row.0 < o.feeders) row (omega (arith, c.requires.feeder, ap (λ t. t.feeders) same)) in
    let rows = ap (λ t. length t.rows) (sym same) ∙ length-sourced_rows o.rows i.columns.items in
    let limit = ap (λ t. t.limit) same in
    let room : 1 ≤ i.room = omega (arith, c.in_ok-reserve.ensures.ok, ap (λ t. t.room) c.self.view_is) in (
      grown_table i.schema.value i.limit o i.columns.items c.self.invariant.0 (row ∷ []) fitting from c.push_row.new.columns.items c.push_row.ensures.long c.push_row.ensures.more
          c.push_row.new.origins c.push_row.ensures.rows c.push_row.ensures.feeders (omega (arith, rows, limit, c.len-position.ensures.len, c.limit.ensures.limit, c.len-position.ensures.within, c.if-position-limit.false)),
      grown_room i.schema.value i.limit o i.columns.items c.self.invariant.0 (row ∷ []) fitting from c.push_row.new.columns.items c.push_row.ensures.long c.push_row.ensures.more
          c.push_row.new.origins c.push_row.ensures.rows c.push_row.ensures.feeders i.room c.self.invariant.1 room c.push_row.ensures.room_left,
    )

pub returns-clause-appended : goal.returns-clause-appended
returns-clause-appended c =
    let i = c.self.inside in
    let o = i.origins in
    let same = ap table_of c.self.view_is ∙ c.in_ok-reserve.ensures.table in
    let row : SourcedRow = (c.args.feeder, c.values.result.now) in
    let fit = ap (fits i.schema.value.columns) c.values.ensures ∙ ap (λ t. fits t.schema.columns c.args.row.now) same ∙ c.requires.fits in
    let fitting : AreFitting i.schema.value.columns (row ∷ []) = All-one (λ row. fits i.schema.value.columns row.1 ≡ true) row fit in
    let from : AreFrom o.feeders (row ∷ []) = All-one (λ row. row.0 < o.feeders) row (omega (arith, c.requires.feeder, ap (λ t. t.feeders) same)) in
    grown_rows i.schema.value i.limit o i.columns.items c.self.invariant.0 (row ∷ []) fitting from c.push_row.new.columns.items c.push_row.ensures.long c.push_row.ensures.more
    c.push_row.new.origins c.push_row.ensures.rows c.push_row.ensures.feeders (table_of c.args.self.now) same
    ∙ ap (λ values. with_row (table_of c.args.self.now) c.args.feeder values) c.values.ensures
