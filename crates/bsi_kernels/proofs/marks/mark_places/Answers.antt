use Rattle.std.proofs.Common.{◌≡◌, ℕ, ◌+◌, ◌-◌, ◌*◌, ◌%◌, ◌≤◌, ◌^◌, ◌++◌, length, length-append, length-take, length-drop, get_or, take, drop, ap, ◌∙◌, refl, arith}
use Rattle.std.proofs.Math.Nat.{pow-le-pow_right}
use Rattle.std.proofs.lemmas.Nat.{one_shl, pow-add}
use Rattle.std.proofs.lemmas.List.{get_or_append_left, get_or-append_right, get_or-drop, get_or-take}
use Rattle.bsi_kernels.proofs.MarkPlaces.{folded_marks, folding_more, folding_none}
use Rattle.bsi_kernels.proofs.marks.mark_places.Goals as goal

-- the words that are folded are those of the digits, and 0 behind them
pub places-init : goal.places-init
places-init c =
    let words = c.args.words.now in
    let base = c.args.base in
    let rest = c.args.folded.now in
    let wide : base ≤ length rest = omega (arith, c.requires.enough, c.requires.ample) in
    let copied : c.copy_from_slice.new.self ≡ take base words = c.copy_from_slice.ensures.after in
    let count : length (take base words) ≡ base = omega (arith, length-take base words, c.requires.within) in
    let folded : c.copy_from_slice.new.self ++ drop base rest ≡ take base words ++ drop base rest = ap (λ xs. xs ++ drop base rest) copied in
    let read : (j : ℕ) → get_or (c.copy_from_slice.new.self ++ drop base rest) j 0 ≡ get_or (take base words ++ drop base rest) j 0 =
    λ j. ap (λ xs. get_or xs j 0) folded in
    folding_none base (length words - base) words (c.copy_from_slice.new.self ++ drop base rest) refl c.requires.within c.requires.enough
    (omega (arith, c.requires.ample, ap length folded, length-append (take base words) (drop base rest), count, length-drop base rest))
    (λ j inside. read j ∙ get_or_append_left (take base words) (drop base rest) 0 j (omega (arith, count)) ∙ get_or-take base words j 0 inside)
    (λ j above. read j ∙ get_or-append_right (take base words) (drop base rest) base j 0 count above ∙ get_or-drop base rest (j - base) 0 ∙ c.requires.clear (base + (j - base)))

-- both halves are there
pub fold-requires : goal.fold-requires
fold-requires c =
    let k = c.places.place - 1 in
    let half : 1 * 2 ^ k % 2 ^ 64 ≡ 2 ^ k = one_shl k 64 (omega (arith, c.places.invariant.few, c.requires.few)) in
    let next : 1 + k ≤ length c.args.words.now - c.args.base = omega (arith, c.places.invariant.few, c.places-test.true) in
    let within : 2 ^ (1 + k) ≤ 2 ^ (length c.args.words.now - c.args.base) = pow-le-pow_right (omega arith) next in
    omega (arith, half, within, pow-add 2 1 k, c.places.invariant.ample)

pub places-preserved : goal.places-preserved
places-preserved c =
    let k = c.places.place - 1 in
    let half : 1 * 2 ^ k % 2 ^ 64 ≡ 2 ^ k = one_shl k 64 (omega (arith, c.places.invariant.few, c.requires.few)) in
    folding_more c.args.base k c.places.place _ c.fold.result c.args.words.now c.places.words c.places.folded c.fold.new.words (omega (arith, c.places-test.true)) half c.places.invariant
    c.fold.ensures.long c.fold.ensures.folded c.fold.ensures.upper

pub returns-clause-marks : goal.returns-clause-marks
returns-clause-marks c = λ block few below marks.
    let none : c.places.place ≡ 0 = omega arith in
    folded_marks c.args.base c.args.words.now c.places.words c.places.folded block few below c.requires.within marks (rw none at c.places.invariant)
