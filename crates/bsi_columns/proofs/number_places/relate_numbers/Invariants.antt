use Rattle.std.proofs.Common.{◌≡◌, ℕ, ◌*◌, ◌%◌, ◌^◌, ◌<◌}
use Rattle.bsi_bits.specs.Packed.{bit_of}
use Rattle.bsi_slices.specs.PairRelations.{relation_holds}
use Rattle.bsi_columns.specs.NumberPlaces.{IsNumberAt}
use Rattle.bsi_columns.proofs.number_places.relate_numbers.Given as goal

-- how the numbers stand by the places so far
abbrev pub invariant-places : goal.invariant-places
invariant-places l =
    (p x y : ℕ) → p < 64 * 16 → IsNumberAt l.first p x → IsNumberAt l.second p y → bit_of l.state p ≡ relation_holds l.relation (x % 2 ^ l.k) (y % 2 ^ l.k)
