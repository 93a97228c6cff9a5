use Rattle.std.proofs.Common.{◌≡◌, List, ◌++◌, Some, ap, ap₂, sym, ◌∙◌, subst}
use Rattle.std.specs.Prelude.{option_map, take, IfSome}
use Rattle.rtrb.specs.Ring.{all_sent, received, known_items}
use Rattle.bsi_rows.specs.Rows.{Entries}
use Rattle.bsi_system.specs.Rings.{all_rows, ring_of, IsWhole}
use Rattle.bsi_system.proofs.Fronts.{carried_once, carried_view, whole_rows}
use Rattle.bsi_system.proofs.Messages.{first_then, popped_then}
use Rattle.bsi_system.proofs.ring_reader.RingReader.settle.Goals as goal
use Rattle.bsi_system.proofs.ring_reader.RingReader.settle.Goals.{in-None-1, in-Some-1}

-- what the first closing carried is what this one carries
pub returns-in-Some-clause-settled : goal.returns-in-Some-clause-settled
returns-in-Some-clause-settled c =
    let l = c.self.inside in
    let one = c.slots_after.ensures.looked in
    let two = c.slots_after-in-Some.ensures.looked in
    let mid = c.slots_after.new.self in
    let last = c.slots_after-in-Some.new.self in
    let whole = subst (λ t. IfSome t (λ sent. received l.ring ++ known_items l.ring ≡ sent)) (ap (option_map all_sent) c.in-Some.is) c.self.invariant.0.whole in
    let same = carried_once (received l.ring) (known_items l.ring) (received mid) (known_items mid) (received last) (known_items last) (all_sent c.in-Some.first) (all_sent c.into_finished-finished.result)
    one.1 one.2 two.1 two.2 whole c.slots_after.ensures.fifo c.slots_after-in-Some.ensures.fifo in
    let carried = ap all_rows (c.slots_after-in-Some.ensures.finished.1 ∙ sym same) ∙ c.into_finished-finished.ensures.rows in
    let ring : ring_of last.end ≡ ring_of l.ring.end = cc (one.0.0.0, one.0.0.1, one.0.0.2, one.0.0.3, two.0.0.0, two.0.0.1, two.0.0.2, two.0.0.3) in
    let within_first = first_then (known_items l.ring) l.next c.self.invariant.0.within_first (known_items mid) one.2 in
    let popped = ap₂ (λ (xs ys : List Entries). xs ++ ys) (ap all_rows (two.1 ∙ one.1))
    (popped_then (known_items mid) l.next within_first (known_items last) two.2 ∙ popped_then (known_items l.ring) l.next c.self.invariant.0.within_first (known_items mid) one.2) in
    carried_view c.args.self.now (ring_of last.end) (ring_of l.ring.end) l.schema.value (all_rows (received last) ++ take l.next (all_rows (known_items last)))
    (Rattle.std.specs.Prelude.drop l.next (all_rows (known_items last))) (Some (all_rows (all_sent c.slots_after-in-Some.new.finished))) c.args.closing.rows
    ring (ap (λ i. i.channel) c.self.view_is) (popped ∙ ap (λ i. i.popped) c.self.view_is) (ap Some carried)

pub returns-in-Some-clause-whole : goal.returns-in-Some-clause-whole
returns-in-Some-clause-whole c =
    let l = c.self.inside in
    let ring = c.slots_after-in-Some.new.self in
    whole_rows (record { ring = ring_of ring.end; schema = l.schema.value }) (received ring) (known_items ring) l.next (Some (all_sent c.slots_after-in-Some.new.finished))
    (c.slots_after-in-Some.ensures.fifo ∙ sym c.slots_after-in-Some.ensures.finished.1)

pub returns-in-Some-clause-once : goal.returns-in-Some-clause-once
returns-in-Some-clause-once c =
    let l = c.self.inside in
    let one = c.slots_after.ensures.looked in
    let two = c.slots_after-in-Some.ensures.looked in
    let mid = c.slots_after.new.self in
    let last = c.slots_after-in-Some.new.self in
    let whole = subst (λ t. IfSome t (λ sent. received l.ring ++ known_items l.ring ≡ sent)) (ap (option_map all_sent) c.in-Some.is) c.self.invariant.0.whole in
    let same = carried_once (received l.ring) (known_items l.ring) (received mid) (known_items mid) (received last) (known_items last) (all_sent c.in-Some.first) (all_sent c.into_finished-finished.result)
    one.1 one.2 two.1 two.2 whole c.slots_after.ensures.fifo c.slots_after-in-Some.ensures.fifo in
    let carried : c.args.self.now.carried ≡ Some (all_rows (all_sent c.in-Some.first)) =
    ap (λ i. i.carried) (sym c.self.view_is) ∙ ap (λ f. option_map all_rows (option_map all_sent f)) c.in-Some.is in
    subst (λ t. IfSome t (λ sent. c.args.closing.rows ≡ sent)) (sym carried) (sym c.into_finished-finished.ensures.rows ∙ ap all_rows same)

pub returns-in-None-clause-whole : goal.returns-in-None-clause-whole
returns-in-None-clause-whole c =
    let l = c.self.inside in
    let ring = c.slots_after.new.self in
    let whole = whole_rows (record { ring = ring_of ring.end; schema = l.schema.value }) (received ring) (known_items ring) l.next (Some (all_sent c.slots_after.new.finished))
    (c.slots_after.ensures.fifo ∙ sym c.slots_after.ensures.finished.1) in
    elim c.match-self-2.branch [ in-Some-1 w ↦ subst IsWhole (sym w.self-is) whole | in-None-1 w ↦ subst IsWhole (sym w.self-is) whole ]
