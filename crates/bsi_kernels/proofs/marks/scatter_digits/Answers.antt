use Rattle.std.proofs.Common.{◌≡◌, ◌-◌, ◌++◌, length, length-append, length-take, length-drop, take, drop, ap, ◌∙◌, arith, rules}
use Rattle.std.specs.Prelude.{◌==◌}
use Rattle.std.specs.Int.{bit_at}
use Rattle.bsi_kernels.proofs.Decoding.{base_small, put_front, put_places, scatter_marks}
use borrow.Rule.Slice.PartMut.{put_mid}
use Rattle.bsi_kernels.proofs.marks.scatter_digits.Goals as goal

pub place_words-places-requires-clause-below : goal.place_words-places-requires-clause-below
place_words-places-requires-clause-below c = λ k inside.
    omega (arith, c.requires.below k inside, base_small c.args.base (length c.args.words.now) c.requires.enough c.requires.few)

pub scatter_places-requires : goal.scatter_places-requires
scatter_places-requires c = record {
  few = omega (arith, length-take c.args.base c.args.words.now, base_small c.args.base (length c.args.words.now) c.requires.enough c.requires.few);
}

pub returns-clause-marks : goal.returns-clause-marks
returns-clause-marks c =
    let base = c.args.base in
    let words = c.args.words.now in
    let front : length c.scatter_places.new.words ≡ base = omega (arith, c.scatter_places.ensures.long, length-take base words, c.requires.within) in
    let all : length (c.scatter_places.new.words ++ drop base words) ≡ length words = omega (arith, length-append c.scatter_places.new.words (drop base words), length-drop base words, front, c.requires.within) in
    let n = length (c.scatter_places.new.words ++ drop base words) - base in
    let six : length c.place_words-places.result ≡ 6 = omega arith in
    let long : length c.copy_from_slice.new.self ≡ n = omega (arith, c.copy_from_slice.ensures.len, length-take n (drop base (c.scatter_places.new.words ++ drop base words)), length-drop base (c.scatter_places.new.words ++ drop base words)) in
    let after : c.copy_from_slice.new.self ≡ take n c.place_words-places.result = c.copy_from_slice.ensures.after in
    let count : length (put_mid base n (c.scatter_places.new.words ++ drop base words) c.copy_from_slice.new.self) ≡ length words = search rules in
    scatter_marks base c.args.block.now c.place_words-places.result (put_mid base n (c.scatter_places.new.words ++ drop base words) c.copy_from_slice.new.self) c.requires.whole six
    (base_small base (length words) c.requires.enough c.requires.few) (omega (arith, count, c.requires.few)) c.requires.below c.place_words-places.ensures
    (λ j k inside near.
    ap (λ w. bit_at w k == 1) (put_front base n c.scatter_places.new.words (drop base words) c.copy_from_slice.new.self c.place_words-places.result front after long (omega (arith, all, c.requires.within)) j inside)
    ∙ c.scatter_places.ensures.decoded j k (omega (arith, front)) near)
    (λ p inside. put_places base n c.scatter_places.new.words (drop base words) c.copy_from_slice.new.self c.place_words-places.result front after long (omega (arith, all, c.requires.within)) p (omega (arith, inside, count, all)))
    c.know_fits.ensures
