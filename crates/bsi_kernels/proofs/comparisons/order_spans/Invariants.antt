use Rattle.std.proofs.Common.{ℕ, ◌+◌, ◌*◌, ◌^◌, ◌<◌, List, length, get_or}
use Rattle.bsi_bits.specs.Packed.{bit_of}
use Rattle.bsi_kernels.specs.Places.{at_most_step, has_place, IsEncoded}
use Rattle.bsi_kernels.specs.Spans.{IsWrittenWithin}
use Rattle.bsi_kernels.proofs.comparisons.order_spans.Given as goal

-- the spans so far are ordered
abbrev pub invariant-spans : goal.invariant-spans
invariant-spans g l =
    (numbers : List ℕ) → IsEncoded has_place l.places numbers → ((k : ℕ) → get_or numbers k 0 < 2 ^ length l.places)
    → IsWrittenWithin (λ r. at_most_step (bit_of l.fn.words r) (get_or numbers (64 * l.start + r) 0) l.constant) l.from (l.from + g.row.N * l.k) l.fn.words l.words
