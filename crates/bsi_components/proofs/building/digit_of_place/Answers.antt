use Rattle.std.proofs.Common.{◌≡◌, ℕ, zero, suc, ◌+◌, ◌<◌, ◌≤◌, inl, inr, ap, refl, arith}
use Rattle.std.specs.Prelude.{◌==◌}
use Rattle.std.proofs.lemmas.Bool.{cases_eq}
use Rattle.bsi_kernels.specs.Places.{has_place}
use Rattle.bsi_components.specs.PlaceNumbers.{place_count}
use Rattle.bsi_components.proofs.building.digit_of_place.Goals as goal

-- bases 2 and 3 take one place and two
one_fewer : (base : ℕ) → 2 ≤ base → base < 4 → (place_count base + 1 ≡ base) × (place_count base ≤ 2)
unfolding lib.Count.count_leading_zeros
one_fewer base least few = elim (cases_eq base 2) [
  | inl two ↦ let one : place_count base ≡ 1 = ap place_count two in (omega arith, omega arith)
  | inr other ↦ let three : base ≡ 3 = omega arith in let both : place_count base ≡ 2 = ap place_count three in (omega arith, omega arith)
]

-- the places of the digits 0 to 2
marks : (k v : ℕ) → k ≤ 1 → v ≤ 2 → (v == k + 1) ≡ has_place k v
marks zero zero low small = refl
marks zero (suc zero) low small = refl
marks zero (suc (suc zero)) low small = refl
marks (suc zero) zero low small = refl
marks (suc zero) (suc zero) low small = refl
marks (suc zero) (suc (suc zero)) low small = refl
marks (suc (suc k)) v low small = absurd (omega arith)
marks zero (suc (suc (suc v))) low small = absurd (omega arith)
marks (suc zero) (suc (suc (suc v))) low small = absurd (omega arith)

pub returns-clause-below : goal.returns-clause-below
returns-clause-below c = let count = one_fewer c.args.base c.requires.base.0 c.requires.few in omega (arith, count.0, c.requires.within)

pub returns-clause-same : goal.returns-clause-same
returns-clause-same c = λ v below.
    let count = one_fewer c.args.base c.requires.base.0 c.requires.few in
    marks c.args.k v (omega (arith, count.1, c.requires.within)) (omega (arith, below, c.requires.few))
