use Rattle.std.proofs.Common.{◌≡◌, ◌<◌, ◌*◌, ◌%◌, ◌^◌, take, get_or, length-take, refl, arith}
use Rattle.std.proofs.lemmas.Nat.{one_shl}
use Rattle.std.proofs.lemmas.List.{get_or-take}
use Rattle.std.proofs.lemmas.Simd.{Each1-from_get_or}
use Rattle.bsi_kernels.proofs.PlaceWords.{place_more}
use Rattle.bsi_kernels.proofs.marks.place_words.Goals as goal

pub overflow_cast-digits : goal.overflow_cast-digits
overflow_cast-digits c =
    Each1-from_get_or _ (take 64 c.args.block.now) 0 (λ i within.
    let inside : i < 64 = omega (arith, length-take 64 c.args.block.now, c.requires.whole) in
    let small : get_or (take 64 c.args.block.now) i 0 < 2 ^ 8 = omega (arith, get_or-take 64 c.args.block.now i 0 inside, c.requires.below i (omega (arith, c.requires.whole))) in
    record { fits = small })

pub places-preserved : goal.places-preserved
places-preserved c =
    let place : 1 * 2 ^ c.places.p % 2 ^ 8 ≡ 2 ^ c.places.p = one_shl c.places.p 8 (omega (arith, c.places-test.true)) in
    place_more c.args.block.now c.places.words _ c.places.p _ c.requires.whole c.requires.below (λ d small. refl) c.places-test.true place c.places.invariant
