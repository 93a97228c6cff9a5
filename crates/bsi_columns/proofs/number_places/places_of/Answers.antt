use Rattle.std.proofs.Common.{◌≡◌, ◌-◌, ◌<◌, ◌^◌, subst, sym, arith}
use Rattle.std.specs.Int.Count.{count_leading_zeros}
use Rattle.std.proofs.lemmas.Nat.{leading_length}
use Rattle.bsi_columns.proofs.number_places.places_of.Goals as goal

pub returns-clause-enough : goal.returns-clause-enough
returns-clause-enough c =
    let n = c.args.number in
    let selection = leading_length 64 n c.ranges.number.fits in
    let is : 64 - count_leading_zeros 64 n ≡ selection.0 = omega (arith, selection.1) in
    subst (λ m. n < 2 ^ m) (sym is) selection.2
