use Rattle.std.proofs.Common.{◌≡◌, ◌≤◌, ◌-◌, ◌∷◌, [], ◌++◌, ap, sym, ◌∙◌, subst, arith, length, append_assoc, length-append}
use Rattle.rtrb.specs.Ring.{known_items, received}
use Rattle.bsi_system.specs.Rings.{all_rows, first_rows, rows_of}
use Rattle.bsi_system.proofs.Messages.{all_rows-push}
use Rattle.bsi_system.proofs.ring_reader.pop_rows.Goals as goal

-- the message that stands first goes out of the ring with the rows that were left of it
pub messages-preserved : goal.messages-preserved
messages-preserved c =
    let old = c.messages.ring in
    let new = c.pop_known.new.self in
    let p = c.pop_known.result in
    let known = c.pop_known.ensures.received.1 in
    let peeked : c.peek_known.result.now ≡ p = cc (c.peek_known.ensures.1 ∙ known) in
    let many : c.len.result ≡ length (rows_of p) = c.len.ensures ∙ ap (λ q. length (rows_of q)) peeked in
    let out : all_rows (received new) ≡ all_rows (received old) ++ rows_of p = ap all_rows c.pop_known.ensures.received.0 ∙ all_rows-push (received old) p in
    let left : all_rows (known_items old) ≡ rows_of p ++ all_rows (known_items new) = ap all_rows known in
    let before = c.messages.invariant in
    let ring = c.pop_known.ensures.ring in
    let within_first : c.messages.at ≤ length (rows_of p) - 1 = subst (λ ps. c.messages.at ≤ length (first_rows ps) - 1) known before.within_first in
    record {
      same = ((ring.0.0 ∙ before.same.0.0, ring.0.1 ∙ before.same.0.1, ring.0.2 ∙ before.same.0.2, ring.0.3 ∙ before.same.0.3), ring.1 ∙ before.same.1);
      messages = ap (λ ps. ps ++ known_items new) c.pop_known.ensures.received.0 ∙ (append_assoc (received old) (p ∷ []) (known_items new) ∙ (ap (λ ps. received old ++ ps) (sym known) ∙ before.messages));
      popped = omega (arith, many, ap length out, length-append (all_rows (received old)) (rows_of p), before.popped, within_first);
      within_first = omega arith;
      seen = omega (arith, many, ap length left, length-append (rows_of p) (all_rows (known_items new)), before.seen);
    }
