use Rattle.std.proofs.Common.{◌≡◌, ℕ, ◌+◌, ◌*◌, ◌%◌, ◌<◌, length}
use Rattle.bsi_bits.specs.Packed.{bit_of}
use Rattle.bsi_digits.specs.Digits.{weight}
use Rattle.bsi_columns.specs.Extremes.{number_at}
use Rattle.bsi_slices.specs.PairRelations.{relation_holds}
use Rattle.bsi_columns.proofs.decomposed.Decomposed.relate_rows.Given as goal

-- how the numbers stand by the components so far
abbrev pub invariant-components : goal.invariant-components
invariant-components g l =
    (p : ℕ) → p < 64 * length l.fn.state → 64 * l.at + p < length l.self.entries
    → bit_of l.state p ≡ relation_holds l.relation (number_at l.self.entries (64 * l.at + p) % weight l.self.bases l.i) (number_at l.other.entries (64 * l.at + p) % weight l.self.bases l.i)
