use Rattle.std.proofs.Common.{◌≡◌, ℕ, zero, suc, ◌<◌, ◌++◌, ◌∷◌, [], length, get_or, None, is_some, ap, ◌∙◌, arith}
use Rattle.std.specs.Prelude.{◌==◌, Option}
use Rattle.std.specs.Int.{bit_at}
use Rattle.bsi_digits.specs.Comparisons.{number_or_zero}
use Rattle.bsi_bits.specs.BitLists.{bits_at}
use Rattle.bsi_slices.proofs.SliceGrowth.{entries_more, sliced_more}
use Rattle.bsi_slices.proofs.slices.push_row.Goals as goal

one_fits : (entry : Option ℕ) (bound : ℕ) → number_or_zero entry < bound → (i : ℕ) → i < 1 → number_or_zero (get_or (entry ∷ []) i None) < bound
one_fits entry bound fit zero within = fit
one_fits entry bound fit (suc i) within = absurd (omega arith)

-- each slice has its place of the number after its bits
pub returns-clause-sliced : goal.returns-clause-sliced
returns-clause-sliced c =
    let marks : c.push_reserved.new.self.bits ≡ c.args.not_null.now.bits ++ is_some c.args.entry ∷ [] =
    c.push_reserved.ensures.bits ∙ (λ i. c.args.not_null.now.bits ++ c.is_some.ensures i ∷ []) in
    let pushed : (k : ℕ) → k < length c.args.slices.now.vectors → bits_at c.push_places.new.self.vectors k ≡ bits_at c.args.slices.now.vectors k ++ (bit_at (number_or_zero c.args.entry) k == 1) ∷ [] =
    λ k within. c.push_places.ensures.bits k within ∙ ap (λ n. bits_at c.args.slices.now.vectors k ++ (bit_at n k == 1) ∷ []) c.unwrap_or-number.ensures in
    sliced_more c.args.not_null.now.bits c.push_reserved.new.self.bits c.args.slices.now.vectors c.push_places.new.self.vectors (c.args.entry ∷ []) c.requires.sliced (one_fits c.args.entry _ c.requires.below)
    marks c.push_places.ensures.count pushed (omega (arith, c.len.ensures))

pub returns-clause-entries : goal.returns-clause-entries
returns-clause-entries c =
    let marks : c.push_reserved.new.self.bits ≡ c.args.not_null.now.bits ++ is_some c.args.entry ∷ [] =
    c.push_reserved.ensures.bits ∙ (λ i. c.args.not_null.now.bits ++ c.is_some.ensures i ∷ []) in
    let pushed : (k : ℕ) → k < length c.args.slices.now.vectors → bits_at c.push_places.new.self.vectors k ≡ bits_at c.args.slices.now.vectors k ++ (bit_at (number_or_zero c.args.entry) k == 1) ∷ [] =
    λ k within. c.push_places.ensures.bits k within ∙ ap (λ n. bits_at c.args.slices.now.vectors k ++ (bit_at n k == 1) ∷ []) c.unwrap_or-number.ensures in
    entries_more c.args.not_null.now.bits c.push_reserved.new.self.bits c.args.slices.now.vectors c.push_places.new.self.vectors (c.args.entry ∷ []) c.requires.sliced (one_fits c.args.entry _ c.requires.below)
    marks c.push_places.ensures.count pushed
