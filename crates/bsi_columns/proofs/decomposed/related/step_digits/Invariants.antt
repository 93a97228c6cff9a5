use Rattle.std.proofs.Common.{◌≡◌, ℕ, ◌+◌, ◌*◌, ◌%◌, ◌^◌, ◌<◌, length, get_or}
use Rattle.bsi_bits.specs.Packed.{bit_of}
use Rattle.bsi_columns.specs.PairRelations.{relation_step}
use Rattle.bsi_columns.proofs.decomposed.related.step_digits.Given as goal

-- how the digits stand by the places so far
abbrev pub invariant-places : goal.invariant-places
invariant-places g l =
    (p : ℕ) → p < 64 * length l.fn.state → 64 * l.at + p < length (g.E.Encoding.digits l.first)
    → bit_of l.state p ≡ relation_step l.relation (bit_of l.fn.state p) (get_or (g.E.Encoding.digits l.first) (64 * l.at + p) 0 % 2 ^ l.k) (get_or (g.F.Encoding.digits l.second) (64 * l.at + p) 0 % 2 ^ l.k)
