use Rattle.std.proofs.Common.{◌≡◌, ◌+◌, ◌∷◌, [], ◌++◌, ℤ, pos, Some, SFits, w64, ℕ, ap, ◌<◌, ◌*◌, ◌^◌, ap₂, ◌∙◌, to_z, of_z, sym, subst, rules, arith, to_z-of_z}
use Rattle.std.specs.Int.{w128}
use Rattle.std.specs.Prelude.{◌+ℤ◌, ◌≤ℤ◌}
use Rattle.std.proofs.lemmas.Int.{ints}
use Rattle.bsi_digits.specs.Orders.{IsGreatestBy, IsLeastBy}
use Rattle.bsi_digits.specs.WholeNumbers.{signed_order}
use Rattle.bsi_aggregates.specs.Tallies.{numbers_of, IsTally}
use Rattle.bsi_aggregates.specs.declared.tally.Tally.{Tally}
use Rattle.bsi_aggregates.proofs.Tallied.{with_null, with_number}
use Rattle.bsi_aggregates.proofs.tally.Tally.with.Goals as goal

pub returns-in_default : goal.returns-in_default
returns-in_default c entries is =
    let tally : ℤ → Tally = λ sum. record { rows = c.args.self.rows + 1; sum = sum; least = c.args.self.least; greatest = c.args.self.greatest } in
    let fits : SFits w128 c.args.self.sum = search rules in
    subst (λ sum. IsTally (entries ++ c.args.entry ∷ []) (tally sum)) (sym (to_z-of_z fits))
    (subst (λ e. IsTally (entries ++ e ∷ []) (tally c.args.self.sum)) (sym c.in_default.is) (with_null entries c.args.self is))

-- the sum of as many numbers fits 128 bits
sum_fits : (rows : ℕ) (sum n : ℤ) → rows < 2 ^ 32 → sum ≤ℤ pos (2 ^ 63 * rows) → pos 0 ≤ℤ (sum +ℤ pos (2 ^ 63 * rows)) → SFits w64 n → SFits w128 (sum +ℤ n)
sum_fits rows sum n few most fewest fits = record { sfits = grind (arith, ints, fits.sfits) }

high : (n : ℤ) → SFits w64 n → n ≤ℤ pos (2 ^ 63)
high n fits = grind (arith, ints, fits.sfits)

low : (n : ℤ) → SFits w64 n → pos 0 ≤ℤ (n +ℤ pos (2 ^ 63))
low n fits = grind (arith, ints, fits.sfits)

pub returns : goal.returns
returns c entries is =
    let tally : ℤ → ℤ → ℤ → Tally = λ sum least greatest. record { rows = c.args.self.rows + 1; sum = sum; least = Some least; greatest = Some greatest } in
    let n = c.in-Some.number in
    let fits : SFits w64 n = search rules in
    let sum_small : SFits w128 c.args.self.sum = search rules in
    let from_small : SFits w128 c.from.result = search rules in
    let least_small : SFits w64 c.lesser.result = search rules in
    let greatest_small : SFits w64 c.greater.result = search rules in
    let read : c.from.result ≡ n = c.from.ensures ∙ to_z-of_z fits in
    let sum_is = ap₂ (λ a b. to_z w128 (of_z w128 (a +ℤ b))) (to_z-of_z sum_small) (to_z-of_z from_small ∙ read) ∙ to_z-of_z (sum_fits c.args.self.rows c.args.self.sum n c.requires.few is.within.most is.within.fewest fits) in
    let least_is = to_z-of_z least_small in
    let greatest_is = to_z-of_z greatest_small in
    subst (λ tally. IsTally (entries ++ c.args.entry ∷ []) tally) (sym (ap (λ s. tally s (to_z w64 (of_z w64 c.lesser.result)) (to_z w64 (of_z w64 c.greater.result))) sum_is ∙ ap₂ (tally (c.args.self.sum +ℤ n)) least_is greatest_is))
    (subst (λ e. IsTally (entries ++ e ∷ []) (tally (c.args.self.sum +ℤ n) c.lesser.result c.greater.result)) (sym c.in-Some.is)
    (with_number entries c.args.self is n c.lesser.result c.greater.result (high n fits) (low n fits) (subst (λ n. IsLeastBy signed_order (numbers_of entries ++ n ∷ []) c.lesser.result) (to_z-of_z fits) (c.lesser.ensures (numbers_of entries) is.least))
    (subst (λ n. IsGreatestBy signed_order (numbers_of entries ++ n ∷ []) c.greater.result) (to_z-of_z fits) (c.greater.ensures (numbers_of entries) is.greatest))))
