use Rattle.std.proofs.Common.{◌≡◌, ◌+◌, ◌-◌, ◌≤◌, ◌++◌, length}
use Rattle.rtrb.specs.Ring.{received, known_items, SameConsumer}
use Rattle.bsi_system.specs.Rings.{all_rows, first_rows}
use Rattle.bsi_system.proofs.ring_reader.pop_rows.Given as goal

-- the messages stay, and so many rows are left to take after those that are popped of the first one
abbrev pub invariant-messages : goal.invariant-messages
invariant-messages l = record {
  same : SameConsumer l.fn.ring l.ring;
  messages : received l.ring ++ known_items l.ring ≡ received l.fn.ring ++ known_items l.fn.ring;
  popped : length (all_rows (received l.ring)) + l.at + l.left ≡ length (all_rows (received l.fn.ring)) + l.next + l.rows;
  within_first : l.at ≤ length (first_rows (known_items l.ring)) - 1;
  seen : l.at + l.left ≤ length (all_rows (known_items l.ring));
}

abbrev pub decreases-messages : goal.decreases-messages
decreases-messages l = l.left
