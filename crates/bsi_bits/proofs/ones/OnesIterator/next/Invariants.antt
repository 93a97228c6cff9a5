use Rattle.std.proofs.Common.{◌-◌, ◌≡◌}
use Rattle.bsi_bits.specs.Packed.{positions_from, IsPacked}
use Rattle.bsi_bits.proofs.ones.OnesIterator.next.Given as goal

abbrev pub invariant-words : goal.invariant-words
invariant-words l = record {
  packed : IsPacked l.self-inside.len l.self-inside.words.now;
  left : positions_from l.self-inside.at l.self-inside.len l.self-inside.words.now
      ≡ positions_from l.initial.self-inside.at l.initial.self-inside.len l.initial.self-inside.words.now;
}

abbrev pub decreases-words : goal.decreases-words
decreases-words l = l.self-inside.len - l.self-inside.at
