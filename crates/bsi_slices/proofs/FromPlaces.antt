-- A column that is made of its slices.
use Rattle.std.proofs.Common.{◌≡◌, ℕ, zero, suc, ◌<◌, ◌≤◌, Bool, true, false, cond, List, [], ◌∷◌, length, get_or, ap, refl, arith}
use Rattle.std.specs.Prelude.{count_by}
use Rattle.std.proofs.lemmas.List.Sums.{sum_by-cons, count_by-le-length}
use Rattle.bsi_bits.specs.BitList.{BitList}
use Rattle.bsi_bits.specs.BitLists.{bits_at}
use Rattle.bsi_slices.specs.Slices.{bit_value, number}

-- of bits that are all counted each is set
pub all_counted : (bits : List Bool) → length bits ≤ count_by (λ b. b) bits → (k : ℕ) (d : Bool) → k < length bits → get_or bits k d ≡ true
all_counted [] all k d within = absurd (omega arith)
all_counted (true ∷ bits) all zero d within = refl
all_counted (true ∷ bits) all (suc k) d within = all_counted bits (omega (arith, all, sum_by-cons (λ b. cond b 1 0) true bits)) k d (omega arith)
all_counted (false ∷ bits) all k d within = absurd (omega (arith, all, sum_by-cons (λ b. cond b 1 0) false bits, count_by-le-length (λ b. b) bits))

-- a number with no bit
pub number_clear : (slices : List BitList) (r : ℕ) → ((k : ℕ) → k < length slices → get_or (bits_at slices k) r false ≡ false) → number slices r ≡ 0
unfolding number
number_clear [] r clear = refl
number_clear (s ∷ slices) r clear =
    let first : bit_value (get_or s.bits r false) ≡ 0 = ap bit_value (clear 0 (omega arith)) in
    omega (arith, first, number_clear slices r (λ k within. clear (suc k) (omega arith)))
