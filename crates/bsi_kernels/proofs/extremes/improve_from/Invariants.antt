use Rattle.std.proofs.Common.{ℕ, ◌+◌, ◌*◌, ◌^◌, ◌<◌, List, length, get_or}
use Rattle.bsi_bits.specs.Packed.{bit_of}
use Rattle.bsi_kernels.specs.Extremes.{IsImprovement}
use Rattle.bsi_kernels.specs.Places.{has_place, IsEncoded}
use Rattle.bsi_kernels.proofs.extremes.improve_from.Given as goal

-- the best one of the spans so far
abbrev pub invariant-spans : goal.invariant-spans
invariant-spans g l =
    (numbers : List ℕ) → IsEncoded has_place l.places numbers → ((k : ℕ) → get_or numbers k 0 < 2 ^ length l.places)
    → IsImprovement l.extreme (λ p. bit_of l.words (64 * l.from + p)) (λ p. get_or numbers (64 * (l.start + l.from) + p) 0) (64 * (g.row.N * l.k)) l.best l.better
