use Rattle.std.proofs.Common.{◌≡◌, ◌<◌, ◌^◌, ℕ, List, Option, length, map, get_or, ap, sym, ◌∙◌, refl, arith, subst}
use Rattle.std.specs.Prelude.{sum}
use Rattle.std.proofs.lemmas.List.{length-map}
use Rattle.std.proofs.lemmas.Nat.{pow_pos}
use Rattle.bsi_bits.specs.BitList.{BitList}
use Rattle.bsi_bits.specs.BitLists.{bits_at}
use Rattle.bsi_kernels.specs.Places.{has_place, IsEncoded}
use Rattle.bsi_digits.specs.Orders.{values_at}
use Rattle.bsi_digits.specs.Comparisons.{number_or_zero}
use Rattle.bsi_slices.specs.Slices.{entries_in}
use Rattle.bsi_slices.proofs.Adding.{number_below, places_of, sum_below, sum_selected}
use Rattle.bsi_slices.proofs.SliceEntries.{length-entries_in}
use Rattle.bsi_slices.proofs.slices.Slices.sum_selected.Goals as goal

-- a slice has a bit for each row
pub sum_by_places-requires-clause-same : goal.sum_by_places-requires-clause-same
sum_by_places-requires-clause-same c = λ k within.
    let rows = c.self.inside.not_null.bits in
    let slices = c.self.inside.slices.vectors in
    let same = ap (λ e. length e.entries) c.self.view_is in
    ap (λ vs. length (bits_at vs k)) c.as_slice.ensures.vectors
    ∙ c.self.invariant.even k (omega (arith, within, ap length c.as_slice.ensures.vectors))
    ∙ sym (length-entries_in rows slices) ∙ same ∙ c.requires

-- the sum of the numbers, where a null counts as 0
summed : (c : goal.After-sum_by_places) → c.sum_by_places.result ≡ sum (values_at c.args.selection.now.bits c.args.self.now.entries)
summed c =
    let rows = c.self.inside.not_null.bits in
    let slices = c.self.inside.slices.vectors in
    let entries = c.args.self.now.entries in
    let numbers = map number_or_zero entries in
    let entries_are : entries_in rows slices ≡ entries = ap (λ e. e.entries) c.self.view_is in
    let width_is : c.args.self.now.width ≡ length c.as_slice.result.now = sym (ap (λ e. e.width) c.self.view_is) ∙ sym (ap length c.as_slice.ensures.vectors) in
    let stored : IsEncoded has_place slices numbers =
    subst (λ (es : List (Option ℕ)). IsEncoded has_place slices (map number_or_zero es)) entries_are (places_of rows slices c.self.invariant) in
    let encoded : IsEncoded has_place c.as_slice.result.now numbers = subst (λ (vs : List BitList). IsEncoded has_place vs numbers) (sym c.as_slice.ensures.vectors) stored in
    let small : (k : ℕ) → get_or numbers k 0 < 2 ^ length c.as_slice.result.now =
    subst (λ (n : ℕ). (k : ℕ) → get_or numbers k 0 < 2 ^ n) width_is (number_below (2 ^ c.args.self.now.width) entries (pow_pos c.args.self.now.width) c.width.ensures.below) in
    c.sum_by_places.ensures numbers encoded small (length-map entries number_or_zero ∙ c.requires)
    ∙ sum_selected (λ n. n) refl c.args.selection.now.bits entries

pub returns-clause-sum : goal.returns-clause-sum
returns-clause-sum c = summed c

pub returns-clause-within : goal.returns-clause-within
returns-clause-within c =
    omega (
      arith,
      summed c,
      sum_below c.args.self.now.width c.args.selection.now.bits c.args.self.now.entries (omega (arith, c.width.ensures.width, c.width.ensures.within)) (omega (arith, c.requires, c.len.ensures.len, c.len.ensures.within)) c.width.ensures.below,
    )
