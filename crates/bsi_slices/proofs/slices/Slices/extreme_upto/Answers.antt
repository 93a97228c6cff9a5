use Rattle.std.proofs.Common.{◌≡◌, ℕ, ◌+◌, ◌-◌, ◌*◌, ◌/◌, ◌^◌, ◌<◌, ◌≤◌, ◌&&◌, List, Option, false, length, map, get_or, ap, ap₂, sym, ◌∙◌, subst, arith}
use Rattle.std.specs.Prelude.{bit_and, All}
use Rattle.std.specs.Simd.Lanes.{zip2}
use Rattle.std.specs.Option.{option_or}
use Rattle.bsi_bits.specs.Packed.{bit_of}
use Rattle.bsi_bits.specs.BitList.{BitList, word_count}
use Rattle.bsi_bits.specs.BitLists.{bits_at}
use Rattle.bsi_kernels.specs.Places.{has_place, IsEncoded}
use Rattle.bsi_digits.specs.Comparisons.{number_or_zero}
use Rattle.bsi_slices.specs.Extremes.{has_number, IsImprovement, IsExtremeUpto}
use Rattle.bsi_slices.proofs.Adding.{number_below, places_of}
use Rattle.bsi_slices.proofs.SliceEntries.{entries_below, length-entries_in}
use Rattle.std.proofs.lemmas.Nat.{pow_pos}
use Rattle.bsi_slices.proofs.WordSpans.{and_bit, span_room}
use Rattle.bsi_slices.proofs.ExtremeRows.{span_more, number_read, number_row}
use Rattle.bsi_slices.proofs.slices.Slices.extreme_upto.Goals as goal

-- a slice has a bit for each row
pub improve_by_places-requires : goal.improve_by_places-requires
improve_by_places-requires g c =
    let rows = c.self.inside.not_null.bits in
    let slices = c.self.inside.slices.vectors in
    let many = ap length c.as_slice-slices.ensures.vectors in
    let within : (k : ℕ) → k < length c.as_slice-slices.result.now → c.args.from + g.row.N * c.span.k + g.row.N ≤ word_count (length (bits_at c.as_slice-slices.result.now k)) = λ k below.
    let even = c.self.invariant.even k (omega (arith, below, many)) in
    let here = ap (λ vs. length (bits_at vs k)) c.as_slice-slices.ensures.vectors in
    let entries = ap (λ e. length e.entries) c.self.view_is in
    let room = span_room g.row.N c.span.k (length c.words.result.now - c.args.from) c.requires.spans.0 c.span-test.true in
    let next : g.row.N * (c.span.k + 1) ≡ g.row.N * c.span.k + g.row.N = omega arith in
    omega (arith, even, here, entries, length-entries_in rows slices, room, next, c.requires.same, c.requires.within, c.words.ensures.few) in
    (omega (arith, c.requires.spans.1), (c.requires.spans, (omega (arith, c.self.invariant.some, many), (omega (arith, c.self.invariant.few, many), within))))

pub span-preserved : goal.span-preserved
span-preserved g c =
    let entries = c.args.self.now.entries in
    let selection = c.args.selection.now.bits in
    let at : ℕ = c.args.from + g.row.N * c.span.k in
    let rows = zip2 bit_and c.span_at.result c.span_at-in-span.result in
    let even = c.span_at.ensures.long ∙ sym c.span_at-in-span.ensures.long in
    let bits : (p : ℕ) → p < 64 * g.row.N → bit_of rows p ≡ has_number selection entries (64 * at + p) =
    λ p below. and_bit c.span_at.result c.span_at-in-span.result even p (omega (arith, c.span_at.ensures.long))
    ∙ ap₂ ◌&&◌ (c.span_at.ensures.places p below) (c.span_at-in-span.ensures.places p below ∙ ap (λ bs. get_or bs (64 * at + p) false) c.not_null.ensures)
    ∙ number_row selection entries (64 * at + p) in
    let slices = c.as_slice-slices.result.now in
    let numbers = map number_or_zero entries in
    let width_is : c.args.self.now.width ≡ length slices = sym (ap (λ e. e.width) c.self.view_is) ∙ sym (ap length c.as_slice-slices.ensures.vectors) in
    let stored : IsEncoded has_place c.self.inside.slices.vectors numbers =
    subst (λ (es : List (Option ℕ)). IsEncoded has_place c.self.inside.slices.vectors (map number_or_zero es)) (ap (λ e. e.entries) c.self.view_is) (places_of c.self.inside.not_null.bits c.self.inside.slices.vectors c.self.invariant) in
    let encoded : IsEncoded has_place slices numbers = subst (λ (vs : List BitList). IsEncoded has_place vs numbers) (sym c.as_slice-slices.ensures.vectors) stored in
    let inside : All (λ e. number_or_zero e < 2 ^ c.args.self.now.width) entries = rw (← c.self.view_is) (entries_below c.self.inside.not_null.bits c.self.inside.slices.vectors) in
    let below : (k : ℕ) → get_or numbers k 0 < 2 ^ length slices =
    subst (λ (n : ℕ). (k : ℕ) → get_or numbers k 0 < 2 ^ n) width_is (number_below (2 ^ c.args.self.now.width) entries (pow_pos c.args.self.now.width) inside) in
    let better = subst (λ (f : ℕ → ℕ). IsImprovement c.args.extreme (bit_of rows) f (64 * g.row.N) c.span.best c.improve_by_places.result) (λ j p. number_read entries (64 * at + p) j)
    (c.improve_by_places.ensures numbers encoded below) in
    let more = span_more c.args.extreme selection entries (64 * at) (64 * g.row.N) (bit_of rows) bits c.span.best c.improve_by_places.result c.span.invariant better in
    let next : 64 * at + 64 * g.row.N ≡ 64 * (c.args.from + g.row.N * (c.span.k + 1)) = omega arith in
    let AtRow : ℕ → Type 0 = λ r. IsExtremeUpto c.args.extreme selection entries r (option_or c.improve_by_places.result c.span.best) in
    rw c.or-best.ensures (subst AtRow next more)

-- all spans are passed
pub returns : goal.returns
returns g c =
    let all : c.span.k ≡ (length c.words.result.now - c.args.from) / g.row.N = omega (arith, c.span-test.false, c.span.auto.k-end) in
    let AtRow : ℕ → Type 0 = λ k. IsExtremeUpto c.args.extreme c.args.selection.now.bits c.args.self.now.entries (64 * (c.args.from + g.row.N * k)) c.span.best in
    let AtWords : ℕ → Type 0 = λ n. AtRow ((n - c.args.from) / g.row.N) in
    subst AtWords c.words.ensures.few (subst AtRow all c.span.invariant)
