use Rattle.std.proofs.Common.{◌≡◌, ◌+◌, ◌*◌, ◌<◌, ◌^◌, get_or, arith}
use Rattle.bsi_columns.proofs.BlockNumbers.{turned_number}
use Rattle.bsi_columns.proofs.decomposed.numbers.digits_into.Goals as goal

pub returns-clause-digits : goal.returns-clause-digits
returns-clause-digits g c = λ r near row.
    let digits = g.E.Encoding.digits c.args.component.now in
    let n = c.place_count-k-end.result in
    let digit = get_or digits (64 * c.args.at + r) 0 in
    let all : c.places.k ≡ n = omega (arith, c.places-test.false, c.places.auto.k-end) in
    let small : digit < 2 ^ n = omega (arith, c.base.ensures.below (64 * c.args.at + r), c.base.ensures.base, c.place_count-k-end.ensures.enough) in
    turned_number c.places.digits c.transpose.new.words n r digit (omega (arith, c.place_count-k-end.ensures.few.1)) near (c.transpose.ensures.fits r) small
    (λ k below. c.transpose.ensures.transposed r k near below)
    (λ k inside. c.places.invariant.done k r (omega (arith, inside, all)) near row) (λ k past. c.places.invariant.rest k (omega (arith, past, all)))
