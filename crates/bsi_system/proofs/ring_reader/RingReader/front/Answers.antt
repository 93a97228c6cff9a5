use Rattle.std.proofs.Common.{ap, sym, ◌∙◌, subst}
use Rattle.std.specs.Prelude.{option_map}
use Rattle.rtrb.specs.Ring.{all_sent, received, known_items}
use Rattle.bsi_system.specs.declared.ring_reader.Front.TheVariants.{Row}
use Rattle.bsi_system.specs.Rings.{all_rows, ring_of, IsFront, IsMessageFor, IsWhole}
use Rattle.bsi_system.proofs.Fronts.{first_fits, none_carried, whole_rows}
use Rattle.bsi_system.proofs.ring_reader.RingReader.front.Goals as goal

-- a row is left of a message whose rows fit
pub returns-then-is_for-clause-front : goal.returns-then-is_for-clause-front
returns-then-is_for-clause-front c =
    let l = c.self.inside in
    let p = c.peek_known.result.now in
    let is = subst (λ s. IsMessageFor s p) c.deref.ensures (c.is_for.ensures.0 c.if-is_for.true) in
    subst (λ i. IsFront i Row) c.self.view_is (first_fits (known_items l.ring) l.next c.self.invariant.0.within_first p c.peek_known.ensures l.schema.value is)

pub returns-then-is_for-clause-whole : goal.returns-then-is_for-clause-whole
returns-then-is_for-clause-whole c =
    let l = c.self.inside in
    subst IsWhole c.self.view_is
    (whole_rows (record { ring = ring_of l.ring.end; schema = l.schema.value }) (received l.ring) (known_items l.ring) l.next (option_map all_sent l.finished) c.self.invariant.0.whole)

-- a message that no feeder of the schema sends stands in no settled ring
pub returns-then-look-clause-front : goal.returns-then-look-clause-front
returns-then-look-clause-front c =
    let l = c.self.inside in
    let p = c.peek_known.result.now in
    let other : ¬ IsMessageFor l.schema.value p = λ is. cc (c.is_for.ensures.1 (subst (λ s. IsMessageFor s p) (sym c.deref.ensures) is), c.if-is_for.false) in
    ap (λ i. i.carried) (sym c.self.view_is)
    ∙ ap (option_map all_rows) (none_carried l.schema.value (received l.ring) (known_items l.ring) l.next (option_map all_sent l.finished) p c.self.invariant.0 c.peek_known.ensures other)

pub returns-then-look-clause-whole : goal.returns-then-look-clause-whole
returns-then-look-clause-whole c =
    let l = c.self.inside in
    subst IsWhole c.self.view_is
    (whole_rows (record { ring = ring_of l.ring.end; schema = l.schema.value }) (received l.ring) (known_items l.ring) l.next (option_map all_sent l.finished) c.self.invariant.0.whole)
