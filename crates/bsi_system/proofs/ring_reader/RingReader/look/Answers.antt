use Rattle.std.proofs.Common.{◌≡◌, ℕ, zero, suc, ◌<◌, ◌-◌, ◌≤◌, Bool, true, false, length, refl, subst, arith}
use Rattle.std.specs.Prelude.{◌↔◌, not, IsTrue}
use Rattle.rtrb.specs.Ring.{known_items}
use Rattle.bsi_system.specs.Rings.{first_rows}
use Rattle.bsi_system.proofs.Messages.{first_looked, known_some, seen_some}
use Rattle.bsi_system.proofs.ring_reader.RingReader.look.Goals as goal

-- what is not none is some
some : (b : Bool) (n : ℕ) → (IsTrue b ↔ (n ≡ 0)) → IsTrue (not b) ↔ (0 < n)
some true n none = (λ is. cc is, λ above. absurd (omega (arith, none.0 refl)))
some false zero none = (λ is. cc (none.1 refl), λ above. absurd (omega arith))
some false (suc n) none = (λ is. omega arith, λ above. refl)

-- a row is left of the message that stands first
pub returns-else-is_some-clause-seen : goal.returns-else-is_some-clause-seen
returns-else-is_some-clause-seen c =
    let l = c.self.inside in
    let known = known_items c.is_empty.new.self in
    let looked = c.is_empty.ensures.looked.2 in
    let within_first = subst (λ ks. l.next ≤ length (first_rows ks) - 1) looked.1 (first_looked (known_items l.ring) l.next c.self.invariant.0.within_first looked.0) in
    let is = some c.is_empty.result (length known) c.is_empty.ensures.value in
    (λ none. seen_some known l.next within_first (is.0 none), λ above. is.1 (known_some known l.next above))
