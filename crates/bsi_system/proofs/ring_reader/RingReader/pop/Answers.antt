use Rattle.std.proofs.Common.{◌≡◌, ap, sym, ◌∙◌, subst}
use Rattle.std.specs.Prelude.{option_map, IfSome}
use Rattle.rtrb.specs.Ring.{all_sent, received, known_items}
use Rattle.bsi_system.specs.Rings.{ring_of, ring_reader, with_more_popped, Ring}
use Rattle.bsi_system.proofs.Fronts.{popped_view, whole_rows}
use Rattle.bsi_system.proofs.ring_reader.RingReader.pop.Goals as goal

-- the messages are the same, and so many rows more are popped
pub returns-clause-popped : goal.returns-clause-popped
returns-clause-popped c =
    let l = c.self.inside in
    let new = c.pop_rows-self-inside.new.ring in
    let next = c.pop_rows-self-inside.result in
    let took = c.pop_rows-self-inside.ensures in
    let carried = option_map all_sent l.finished in
    let ring : ring_of new.end ≡ ring_of l.ring.end = cc (took.ring.0.0, took.ring.0.1, took.ring.0.2, took.ring.0.3) in
    ap (λ (r : Ring). ring_reader (record { ring = r; schema = l.schema.value }) (received new) (known_items new) next carried) ring
    ∙ (popped_view (record { ring = ring_of l.ring.end; schema = l.schema.value }) (received l.ring) (known_items l.ring) l.next (received new) (known_items new) next c.args.rows carried took.messages took.popped
    ∙ ap (λ i. with_more_popped i c.args.rows) c.self.view_is)

pub returns-clause-whole : goal.returns-clause-whole
returns-clause-whole c =
    let l = c.self.inside in
    let new = c.pop_rows-self-inside.new.ring in
    let carried = option_map all_sent l.finished in
    whole_rows (record { ring = ring_of new.end; schema = l.schema.value }) (received new) (known_items new) c.pop_rows-self-inside.result carried
    (subst (λ ps. IfSome carried (λ sent. ps ≡ sent)) (sym c.pop_rows-self-inside.ensures.messages) c.self.invariant.0.whole)
