use Rattle.std.proofs.Common.{◌≡◌, ◌<◌, ◌≤◌, ◌-◌, ◌++◌, ℕ, length, map, ap, sym, subst, arith, ◌∙◌}
use Rattle.bsi_shift.specs.Shifted.{shifted_entries}
use Rattle.bsi_table.specs.Index.{table_of, AreRoomy}
use Rattle.bsi_table.specs.Joined.{rows_as, AreEnough}
use Rattle.bsi_rows.specs.Table.{encoded_as, with_rows}
use Rattle.bsi_table.specs.Encoded.{encoded_at, AreAlikeColumns, HasMore}
use Rattle.bsi_table.proofs.Growing.{grown_room, grown_rows, grown_table}
use Rattle.bsi_table.proofs.Joining.{alike_others, even_others, feeders-joined, joined, joined_fit, joined_from, joined_more, length-joined, long_others}
use Rattle.bsi_table.proofs.TableRows.{length-sourced_rows}
use Rattle.bsi_table.proofs.index.Index.push_index.Goals as goal

-- the other index keeps its columns alike
pub push_all-requires-clause-long : goal.push_all-requires-clause-long
push_all-requires-clause-long c =
    let i = c.self.inside in
    let o = c.other.inside in
    let alike = ap (λ t. map encoded_as t.schema.columns) c.self.view_is ∙ c.requires.alike ∙ sym (ap (λ t. map encoded_as t.schema.columns) c.other.view_is) in
    ap length c.deref.ensures.value
    ∙ long_others i.schema.value o.schema.value i.limit o.limit i.origins o.origins i.columns.items o.columns.items c.self.invariant.0 c.other.invariant.0 alike

pub push_all-requires-clause-alike : goal.push_all-requires-clause-alike
push_all-requires-clause-alike c =
    let i = c.self.inside in
    let o = c.other.inside in
    let alike = ap (λ t. map encoded_as t.schema.columns) c.self.view_is ∙ c.requires.alike ∙ sym (ap (λ t. map encoded_as t.schema.columns) c.other.view_is) in
    subst (AreAlikeColumns i.columns.items) (sym c.deref.ensures.value)
    (alike_others i.schema.value o.schema.value i.limit o.limit i.origins o.origins i.columns.items o.columns.items c.self.invariant.0 c.other.invariant.0 alike)

pub push_all-requires-clause-even : goal.push_all-requires-clause-even
push_all-requires-clause-even c = λ k within.
    let i = c.self.inside in
    let o = c.other.inside in
    let alike = ap (λ t. map encoded_as t.schema.columns) c.self.view_is ∙ c.requires.alike ∙ sym (ap (λ t. map encoded_as t.schema.columns) c.other.view_is) in
    subst (λ xs. length (shifted_entries (encoded_at xs k)) ≡ length o.origins.rows) (sym c.deref.ensures.value)
    (even_others i.schema.value o.schema.value i.limit o.limit i.origins o.origins i.columns.items o.columns.items c.self.invariant.0 c.other.invariant.0 alike k (omega (arith, within, ap length c.deref.ensures.value)))

-- there is room for its rows
pub push_all-requires-clause-room : goal.push_all-requires-clause-room
push_all-requires-clause-room c = λ k within.
    let rows = ap (λ t. length t.rows) (sym c.other.view_is) ∙ length-sourced_rows c.other.inside.origins.rows c.other.inside.columns.items in
    omega (arith, c.self.invariant.1.columns k within, c.requires.room, ap (λ t. t.room) c.self.view_is, rows)

pub push_all-requires-clause-reserved : goal.push_all-requires-clause-reserved
push_all-requires-clause-reserved c =
    let rows = ap (λ t. length t.rows) (sym c.other.view_is) ∙ length-sourced_rows c.other.inside.origins.rows c.other.inside.columns.items in
    omega (arith, c.self.invariant.1.origins, c.requires.room, ap (λ t. t.room) c.self.view_is, rows)

pub push_all-requires-clause-feeders : goal.push_all-requires-clause-feeders
push_all-requires-clause-feeders c =
    subst (λ n. AreEnough n c.args.feeder c.other.inside.origins.feeders) (sym (ap (λ t. t.feeders) c.self.view_is))
    (subst (AreEnough c.args.self.now.feeders c.args.feeder) (sym (ap (λ t. t.feeders) c.other.view_is)) c.requires.feeders)

pub invariant_of-self : goal.invariant_of-self
invariant_of-self c =
    let i = c.self.inside in
    let o = c.other.inside in
    let f = c.args.feeder in
    let encoded = i.columns.items in
    let others = o.columns.items in
    let pushed = c.push_all.new.columns.items in
    let alike = ap (λ t. map encoded_as t.schema.columns) c.self.view_is ∙ c.requires.alike ∙ sym (ap (λ t. map encoded_as t.schema.columns) c.other.view_is) in
    let enough : AreEnough i.origins.feeders f o.origins.feeders = subst (λ n. AreEnough n f o.origins.feeders) (sym (ap (λ t. t.feeders) c.self.view_is))
    (subst (AreEnough c.args.self.now.feeders f) (sym (ap (λ t. t.feeders) c.other.view_is)) c.requires.feeders) in
    let each : (k : ℕ) → k < length encoded → HasMore (encoded_at encoded k) (encoded_at pushed k) (shifted_entries (encoded_at others k)) =
    subst (λ xs. (k : ℕ) → k < length encoded → HasMore (encoded_at encoded k) (encoded_at pushed k) (shifted_entries (encoded_at xs k))) c.deref.ensures.value c.push_all.ensures.more in
    let rows = joined i.schema.value o.schema.value i.limit o.limit i.origins o.origins encoded others c.self.invariant.0 c.other.invariant.0 alike f enough in
    let fit = joined_fit i.schema.value o.schema.value i.limit o.limit i.origins o.origins encoded others c.self.invariant.0 c.other.invariant.0 alike f enough in
    let from = joined_from i.schema.value o.schema.value i.limit o.limit i.origins o.origins encoded others c.self.invariant.0 c.other.invariant.0 alike f enough in
    let more = joined_more i.schema.value o.schema.value i.limit o.limit i.origins o.origins encoded others c.self.invariant.0 c.other.invariant.0 alike f enough pushed each in
    let many = length-joined i.schema.value o.schema.value i.limit o.limit i.origins o.origins encoded others c.self.invariant.0 c.other.invariant.0 alike f enough in
    let row_feeders = c.push_all.ensures.rows
    ∙ ap (λ ys. i.origins.rows ++ ys) (feeders-joined i.schema.value o.schema.value i.limit o.limit i.origins o.origins encoded others c.self.invariant.0 c.other.invariant.0 alike f enough) in
    let before = ap (λ t. length t.rows) (sym c.self.view_is) ∙ length-sourced_rows i.origins.rows encoded in
    let counted = ap (λ t. length t.rows) (sym c.other.view_is) ∙ length-sourced_rows o.origins.rows others in
    let room : length rows ≤ i.room = omega (arith, many, counted, c.requires.room, ap (λ t. t.room) c.self.view_is) in (
      grown_table i.schema.value i.limit i.origins encoded c.self.invariant.0 rows fit from pushed c.push_all.ensures.long more
          c.push_all.new.origins row_feeders c.push_all.ensures.feeders (omega (arith, many, counted, before, c.requires.within, ap (λ t. t.limit) c.self.view_is)),
      subst (λ n. AreRoomy pushed c.push_all.new.origins (i.room - n)) (many ∙ sym counted ∙ sym c.len.ensures.len)
          (grown_room i.schema.value i.limit i.origins encoded c.self.invariant.0 rows fit from pushed c.push_all.ensures.long more
          c.push_all.new.origins row_feeders c.push_all.ensures.feeders i.room c.self.invariant.1 room (omega (arith, many, c.push_all.ensures.room_left))),
    )

pub returns-clause-table : goal.returns-clause-table
returns-clause-table c =
    let i = c.self.inside in
    let o = c.other.inside in
    let f = c.args.feeder in
    let encoded = i.columns.items in
    let others = o.columns.items in
    let pushed = c.push_all.new.columns.items in
    let alike = ap (λ t. map encoded_as t.schema.columns) c.self.view_is ∙ c.requires.alike ∙ sym (ap (λ t. map encoded_as t.schema.columns) c.other.view_is) in
    let enough : AreEnough i.origins.feeders f o.origins.feeders = subst (λ n. AreEnough n f o.origins.feeders) (sym (ap (λ t. t.feeders) c.self.view_is))
    (subst (AreEnough c.args.self.now.feeders f) (sym (ap (λ t. t.feeders) c.other.view_is)) c.requires.feeders) in
    let each : (k : ℕ) → k < length encoded → HasMore (encoded_at encoded k) (encoded_at pushed k) (shifted_entries (encoded_at others k)) =
    subst (λ xs. (k : ℕ) → k < length encoded → HasMore (encoded_at encoded k) (encoded_at pushed k) (shifted_entries (encoded_at xs k))) c.deref.ensures.value c.push_all.ensures.more in
    let rows = joined i.schema.value o.schema.value i.limit o.limit i.origins o.origins encoded others c.self.invariant.0 c.other.invariant.0 alike f enough in
    let fit = joined_fit i.schema.value o.schema.value i.limit o.limit i.origins o.origins encoded others c.self.invariant.0 c.other.invariant.0 alike f enough in
    let from = joined_from i.schema.value o.schema.value i.limit o.limit i.origins o.origins encoded others c.self.invariant.0 c.other.invariant.0 alike f enough in
    let more = joined_more i.schema.value o.schema.value i.limit o.limit i.origins o.origins encoded others c.self.invariant.0 c.other.invariant.0 alike f enough pushed each in
    let row_feeders = c.push_all.ensures.rows
    ∙ ap (λ ys. i.origins.rows ++ ys) (feeders-joined i.schema.value o.schema.value i.limit o.limit i.origins o.origins encoded others c.self.invariant.0 c.other.invariant.0 alike f enough) in
    grown_rows i.schema.value i.limit i.origins encoded c.self.invariant.0 rows fit from pushed c.push_all.ensures.long more
    c.push_all.new.origins row_feeders c.push_all.ensures.feeders (table_of c.args.self.now) (ap table_of c.self.view_is)
    ∙ ap (λ t. with_rows (table_of c.args.self.now) (rows_as f t.rows)) c.other.view_is
