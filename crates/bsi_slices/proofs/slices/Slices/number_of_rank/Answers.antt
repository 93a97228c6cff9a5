use Rattle.std.proofs.Common.{◌≡◌, ◌<◌, ◌^◌, ℕ, List, Option, length, map, get_or, ap, ap₂, sym, ◌∙◌, arith, subst}
use Rattle.std.specs.Prelude.{count_by, is_some, ◌&&◌}
use Rattle.std.specs.Simd.Lanes.{zip2}
use Rattle.std.proofs.lemmas.List.{length-map}
use Rattle.std.proofs.lemmas.Nat.{pow_pos}
use Rattle.std.proofs.lemmas.Simd.{length-zip2}
use Rattle.bsi_bits.specs.BitList.{BitList}
use Rattle.bsi_bits.specs.BitLists.{bits_at}
use Rattle.bsi_kernels.specs.Places.{has_place, IsEncoded}
use Rattle.bsi_digits.specs.Comparisons.{number_or_zero}
use Rattle.bsi_slices.specs.Slices.{entries_in}
use Rattle.bsi_slices.proofs.Adding.{number_below, places_of}
use Rattle.bsi_slices.proofs.Ranking.{count_numbers}
use Rattle.bsi_slices.proofs.SliceEntries.{length-entries_in}
use Rattle.bsi_slices.proofs.WholeRanks.{number_ranked}
use Rattle.bsi_slices.proofs.slices.Slices.number_of_rank.Goals as goal
use Rattle.bsi_slices.proofs.slices.Slices.number_of_rank.Goals.{After-and_with}

-- at first the selected rows with a number are left
chosen_is : (c : After-and_with) → c.and_with.new.self.bits ≡ zip2 ◌&&◌ c.args.selection.now.bits (map is_some c.args.self.now.entries)
chosen_is c = c.and_with.ensures.bits ∙ ap₂ (zip2 ◌&&◌) c.in_ok-rows.ensures c.not_null.ensures

chosen_long : (c : After-and_with) → length c.and_with.new.self.bits ≡ length c.args.self.now.entries
chosen_long c =
    let entries = c.args.self.now.entries in
    ap length (chosen_is c) ∙ length-zip2 ◌&&◌ c.args.selection.now.bits (map is_some entries) (sym (length-map entries is_some ∙ c.requires.same)) ∙ sym c.requires.same

-- a slice has a bit for each row
pub rows_of_rank-requires-clause-same : goal.rows_of_rank-requires-clause-same
rows_of_rank-requires-clause-same c = λ k within.
    let rows = c.self.inside.not_null.bits in
    let slices = c.self.inside.slices.vectors in
    let at = (goal.at.rows_of_rank-requires-clause-same c).After-and_with in
    ap (λ vs. length (bits_at vs k)) c.as_slice.ensures.vectors
    ∙ c.self.invariant.even k (omega (arith, within, ap length c.as_slice.ensures.vectors))
    ∙ sym (length-entries_in rows slices) ∙ ap (λ e. length e.entries) c.self.view_is ∙ sym (chosen_long at)

pub rows_of_rank-requires-clause-there : goal.rows_of_rank-requires-clause-there
rows_of_rank-requires-clause-there c =
    let at = (goal.at.rows_of_rank-requires-clause-there c).After-and_with in
    let counted = ap (count_by (λ b. b)) (chosen_is at) ∙ count_numbers c.args.selection.now.bits c.args.self.now.entries in
    omega (arith, counted, c.requires.there)

pub returns : goal.returns
returns c =
    let rows = c.self.inside.not_null.bits in
    let slices = c.self.inside.slices.vectors in
    let entries = c.args.self.now.entries in
    let numbers = map number_or_zero entries in
    let at = (goal.at.returns c).After-and_with in
    let entries_are : entries_in rows slices ≡ entries = ap (λ e. e.entries) c.self.view_is in
    let width_is : c.args.self.now.width ≡ length c.as_slice.result.now = sym (ap (λ e. e.width) c.self.view_is) ∙ sym (ap length c.as_slice.ensures.vectors) in
    let stored : IsEncoded has_place slices numbers =
    subst (λ (es : List (Option ℕ)). IsEncoded has_place slices (map number_or_zero es)) entries_are (places_of rows slices c.self.invariant) in
    let encoded : IsEncoded has_place c.as_slice.result.now numbers = subst (λ (vs : List BitList). IsEncoded has_place vs numbers) (sym c.as_slice.ensures.vectors) stored in
    let small : (k : ℕ) → get_or numbers k 0 < 2 ^ length c.as_slice.result.now =
    subst (λ (n : ℕ). (k : ℕ) → get_or numbers k 0 < 2 ^ n) width_is (number_below (2 ^ c.args.self.now.width) entries (pow_pos c.args.self.now.width) c.width.ensures.below) in
    let ranked = c.rows_of_rank.ensures.ranked numbers encoded small (length-map entries number_or_zero ∙ sym (chosen_long at)) in
    number_ranked (2 ^ c.args.self.now.width) c.args.rank c.rows_of_rank.result.number c.rows_of_rank.result.rank c.args.selection.now.bits c.and_with.new.self.bits entries c.rows_of_rank.result.rows.bits
    c.width.ensures.below (subst (λ (n : ℕ). c.rows_of_rank.result.number < 2 ^ n) (sym width_is) c.rows_of_rank.ensures.below) (chosen_is at) c.requires.there ranked
