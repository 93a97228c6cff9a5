use Rattle.std.proofs.Common.{◌≤◌, ◌-◌, length, ap, sym, subst, arith, ◌∙◌}
use Rattle.bsi_table.specs.Index.{table_of, AreRoomy}
use Rattle.bsi_rows.specs.Table.{AreFitting, AreFrom, Table}
use Rattle.bsi_table.proofs.Growing.{grown_room, grown_rows, grown_table, accepted}
use Rattle.bsi_table.proofs.TableRows.{length-sourced_rows}
use Rattle.bsi_table.proofs.index.Index.append_block.Goals as goal

pub push_rows-requires-clause-accepted : goal.push_rows-requires-clause-accepted
push_rows-requires-clause-accepted c =
    let i = c.self.inside in
    let same = ap table_of c.self.view_is ∙ c.in_ok-reserve.ensures.table in
    let rows = c.args.block.now.rows in
    let fit : AreFitting i.schema.value.columns rows = subst (λ (t : Table). AreFitting t.schema.columns rows) (sym same) c.requires.fits in
    let from : AreFrom i.origins.feeders rows = subst (λ (t : Table). AreFrom t.feeders rows) (sym same) c.requires.feeders in
    accepted i.schema.value i.limit i.origins i.columns.items c.self.invariant.0 rows fit from

pub invariant_of-self : goal.invariant_of-self
invariant_of-self c =
    let i = c.self.inside in
    let same = ap table_of c.self.view_is ∙ c.in_ok-reserve.ensures.table in
    let rows = c.args.block.now.rows in
    let fit : AreFitting i.schema.value.columns rows = subst (λ (t : Table). AreFitting t.schema.columns rows) (sym same) c.requires.fits in
    let from : AreFrom i.origins.feeders rows = subst (λ (t : Table). AreFrom t.feeders rows) (sym same) c.requires.feeders in
    let before = ap (λ t. length t.rows) (sym same) ∙ length-sourced_rows i.origins.rows i.columns.items in
    let limit = ap (λ t. t.limit) same in
    let room : length rows ≤ i.room = omega (arith, c.in_ok-reserve.ensures.ok, c.len-more.ensures.len, ap (λ t. t.room) c.self.view_is) in (
      grown_table i.schema.value i.limit i.origins i.columns.items c.self.invariant.0 rows fit from c.push_rows.new.columns.items c.push_rows.ensures.long c.push_rows.ensures.more
          c.push_rows.new.origins c.push_rows.ensures.rows c.push_rows.ensures.feeders (omega (arith, before, limit, c.in_ok-first.ensures.within, c.len-more.ensures.len)),
      subst (λ n. AreRoomy c.push_rows.new.columns.items c.push_rows.new.origins (i.room - n)) (sym c.len-more.ensures.len)
          (grown_room i.schema.value i.limit i.origins i.columns.items c.self.invariant.0 rows fit from c.push_rows.new.columns.items c.push_rows.ensures.long c.push_rows.ensures.more
          c.push_rows.new.origins c.push_rows.ensures.rows c.push_rows.ensures.feeders i.room c.self.invariant.1 room c.push_rows.ensures.room_left),
    )

pub returns-clause-appended : goal.returns-clause-appended
returns-clause-appended c =
    let i = c.self.inside in
    let same = ap table_of c.self.view_is ∙ c.in_ok-reserve.ensures.table in
    let rows = c.args.block.now.rows in
    let fit : AreFitting i.schema.value.columns rows = subst (λ (t : Table). AreFitting t.schema.columns rows) (sym same) c.requires.fits in
    let from : AreFrom i.origins.feeders rows = subst (λ (t : Table). AreFrom t.feeders rows) (sym same) c.requires.feeders in
    grown_rows i.schema.value i.limit i.origins i.columns.items c.self.invariant.0 rows fit from c.push_rows.new.columns.items c.push_rows.ensures.long c.push_rows.ensures.more
    c.push_rows.new.origins c.push_rows.ensures.rows c.push_rows.ensures.feeders (table_of c.args.self.now) same
