use Rattle.std.proofs.Common.{◌≡◌, length, arith}
use Rattle.bsi_slices.proofs.BlockNumbers.{gathered_numbers}
use Rattle.bsi_slices.proofs.transposing.numbers_by_places.Goals as goal

pub returns-clause-numbers : goal.returns-clause-numbers
returns-clause-numbers c = λ r near.
    let all : c.places.k ≡ length c.args.places.now = omega (arith, c.places-test.false, c.places.auto.k-end) in
    gathered_numbers c.args.places.now c.args.at c.places.numbers c.transpose.new.words r c.requires.few near (c.transpose.ensures.fits r)
    (λ k below. c.transpose.ensures.transposed r k near below) (rw (← all) c.places.invariant)
